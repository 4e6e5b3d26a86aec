use Rattle.std.proofs.Common.{◌≤◌, length, sym, arith}
use Rattle.std.proofs.lemmas.List.{take_all}
use Rattle.mr_tool.specs.Sources.{most_loaded}
use Rattle.mr_test_tool.proofs.tests.tool.files_at.front.Goals as goal

pub returns-then-bytes-lt-MOST_LOADED : goal.returns-then-bytes-lt-MOST_LOADED
returns-then-bytes-lt-MOST_LOADED c =
    let short : length c.args.bytes.now ≤ most_loaded = omega arith in
    sym (take_all most_loaded c.args.bytes.now short)
