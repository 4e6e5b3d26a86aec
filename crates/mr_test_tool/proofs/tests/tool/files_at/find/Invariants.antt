use Rattle.std.proofs.Common.{◌≡◌, drop}
use Rattle.mr_test_tool.specs.FilesAt.{known_at}
use Rattle.mr_test_tool.proofs.tests.tool.files_at.find.Given as goal

abbrev pub invariant-loop-name : goal.invariant-loop-name
invariant-loop-name l = known_at l.places l.path ≡ known_at (drop l.name-index l.places) l.path
