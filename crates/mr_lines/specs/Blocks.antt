-- What stands behind a block.
use Rattle.std.specs.Prelude.{ℕ, ◌+◌, ◌==◌, not, nat_le, List, length, slice_index, if◌then◌else◌}
use Rattle.mr_lines.specs.declared.blocks.BlockEnd.{BlockEnd}
use Rattle.mr_lines.specs.declared.blocks.BlockEnd.TheVariants.{Awaited, Found, Wrong}

-- what stands behind the block of this length at the front of the bytes: both bytes of a line end, as far as they are there
-- (from: protocol.txt, "Storage commands")
unfoldable pub block_end : ℕ → List ℕ → BlockEnd
block_end block_length bytes =
    if nat_le (length bytes) block_length then Awaited
    else if not (slice_index bytes block_length == 13) then Wrong
    else if nat_le (length bytes) (block_length + 1) then Awaited
    else if slice_index bytes (block_length + 1) == 10 then Found
    else Wrong
