-- What a reader of replies says of bytes.
use Rattle.std.proofs.Common.{◌≡◌, ℕ, ◌+◌, ◌↔◌, true, false, IsTrue, List, [], ◌∷◌, ◌++◌, length, Ok, Err, Result, nat_eq, is_err, refl, arith, eq-eqb, eqb-true}
use Rattle.mr_text.specs.Replies.{NextReplyIs}
use Rattle.mr_text.specs.Stream.{ReaderView, Becomes, FeedIs}
use Rattle.mr_text.specs.declared.error.TextError.{TextError}
use Rattle.mr_text.specs.declared.error.TextError.TheVariants.{LineTooLong, BadKey, BadNumber, WrongWords, DataTooLong, BadDataEnd, UnknownCommand, Truncated, Closed, OutOfMemory}
use Rattle.mr_probes.specs.Heard.{HearsSo, coming_of}

pub fed : (old new : ReaderView) (bytes : List ℕ) (result : Result (Unit {0}) TextError) → FeedIs old new old.kept bytes result → is_err result ≡ false
    → Becomes new (old.kept ++ bytes) false false
fed old new bytes (Ok u) f e = f.2
fed old new bytes (Err x) f e = absurd (cc)

-- nothing is held of a reply of which nothing is begun exactly where nothing is kept
pub held_none : (kept : List ℕ) (begun held : ℕ) → begun ≡ 0 → begun + held ≡ length kept → IsTrue (nat_eq held 0) ↔ (kept ≡ [])
held_none [] begun held b h = (λ yes. refl, λ none. eq-eqb held 0 (omega arith))
held_none (byte ∷ kept) begun held b h = (
  λ yes. (let z : held ≡ 0 = eqb-true held 0 yes in absurd (omega arith)),
  λ none. absurd (cc),
)

-- a refusal of an open reader
pub refused : (old new : ReaderView) (refusal : TextError) → old.closed ≡ false → old.ended ≡ false → NextReplyIs old new old.kept (Err refusal)
    → (kept : List ℕ) → kept ≡ [] → HearsSo old.kept (coming_of refusal) kept
refused old new OutOfMemory shut going n kept e = e
refused old new LineTooLong shut going n kept e = ((LineTooLong, n.1), e)
refused old new BadKey shut going n kept e = ((BadKey, n.1), e)
refused old new BadNumber shut going n kept e = ((BadNumber, n.1), e)
refused old new WrongWords shut going n kept e = ((WrongWords, n.1), e)
refused old new DataTooLong shut going n kept e = ((DataTooLong, n.1), e)
refused old new BadDataEnd shut going n kept e = ((BadDataEnd, n.1), e)
refused old new (UnknownCommand true) shut going n kept e = ((UnknownCommand true, n.1), e)
refused old new (UnknownCommand false) shut going n kept e = absurd n.2
refused old new Truncated shut going n kept e = absurd (let a = n.1 in cc)
refused old new Closed shut going n kept e = absurd (let a = n.0 in cc)
