use Rattle.std.proofs.Common.{◌≡◌, drop}
use Rattle.mr_looks.specs.Posts.{node_among}
use Rattle.mr_looks.proofs.posts.node_in.Given as goal

abbrev pub invariant-loop-post : goal.invariant-loop-post
invariant-loop-post l = node_among l.name (drop l.post-index l.posts) ≡ node_among l.name l.posts
