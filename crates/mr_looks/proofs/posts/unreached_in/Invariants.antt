use Rattle.std.proofs.Common.{◌≡◌, ◌++◌, drop}
use Rattle.mr_looks.specs.Posts.{addresses_of_unreached, unreached_addresses}
use Rattle.mr_looks.proofs.posts.unreached_in.Given as goal

abbrev pub invariant-loop-post : goal.invariant-loop-post
invariant-loop-post l = addresses_of_unreached l.services.items ++ unreached_addresses (drop l.post-index l.posts) ≡ unreached_addresses l.posts
