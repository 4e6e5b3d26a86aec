use Rattle.std.proofs.Common.{◌≡◌, ◌++◌, drop}
use Rattle.mr_looks.specs.Posts.{all_shown, proxies_now}
use Rattle.mr_looks.proofs.posts.proxies_in.Given as goal

abbrev pub invariant-loop-post : goal.invariant-loop-post
invariant-loop-post l = all_shown l.proxies.items ++ proxies_now (drop l.post-index l.posts) ≡ proxies_now l.posts
