use Rattle.std.proofs.Common.{◌≡◌}
use Rattle.std.specs.Str.{bytes_eq}
use Rattle.std.specs.Cmp.Lexicographic.{pointwise}
use Rattle.std.proofs.lemmas.Slice.Eq.{slice_eq-Decides, bytes_eq-Decides}
use Rattle.mr_pools.proofs.pool.Pool.same_as.Goals as goal

pub returns : goal.returns
returns c =
    let same : c.eq.result ≡ pointwise bytes_eq c.args.self.now c.args.other.now = cc in
    slice_eq-Decides bytes_eq-Decides c.args.self.now c.args.other.now c.eq.result same
