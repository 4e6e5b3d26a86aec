-- A block whose text was looked at, and which is yet to be made.
use Rattle.std.specs.Prelude.{◌≡◌, ℕ, List, [], Ok, unwrap_or}
use Rattle.std.specs.Str.{chars}
use Rattle.mr_shown.specs.Data.{data_of}
use Rattle.mr_scripts.specs.Texts.{block_of_text}
use Rattle.mr_scripts.specs.declared.blocks.BlockDraft.{BlockDraft}

-- the block that it becomes
abbrev pub block_drafted : BlockDraft → List ℕ
block_drafted draft = unwrap_or (data_of draft.format (chars draft.text.now)) []

-- nothing but want of memory keeps it from being made
abbrev pub IsBlockReady : BlockDraft → Type 0
IsBlockReady draft = block_of_text draft.format draft.text.now ≡ Ok (block_drafted draft)
