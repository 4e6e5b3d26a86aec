use Rattle.mr_looks.proofs.PostLemmas.{Walked}
use Rattle.mr_looks.specs.Posts.{IsAskedAsProxy}
use Rattle.mr_looks.proofs.posts.ask_proxies.Given as goal

-- those so far were asked that are to be asked
abbrev pub invariant-loop-post : goal.invariant-loop-post
invariant-loop-post g l = Walked IsAskedAsProxy l.post-index l.fn.posts l.posts
