-- What a reader answers where no item is whole yet.
use Rattle.std.specs.Prelude.{◌≡◌, ◌≢◌, true, [], Option, None, Result, Ok, Err}
use Rattle.mr_text.specs.Stream.{ReaderView}
use Rattle.mr_text.specs.declared.error.TextError.{TextError}
use Rattle.mr_text.specs.declared.error.TextError.TheVariants.{Truncated}

-- it waits for more; where the input ended inside an item, that is the refusal, and it closes the reader
abbrev pub WaitIs : {Item : Type 0} → ReaderView → ReaderView → Result (Option Item) TextError → Type 0
WaitIs old new (Ok item) = (item ≡ None) × (new ≡ old) × (old.ended ≡ true → old.kept ≡ [])
WaitIs old new (Err refusal) = (refusal ≡ Truncated) × (old.ended ≡ true) × (old.kept ≢ []) × (new ≡ record old { closed = true })
