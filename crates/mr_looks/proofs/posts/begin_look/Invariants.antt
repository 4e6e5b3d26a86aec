use Rattle.mr_looks.proofs.PostLemmas.{IsBegun, Walked}
use Rattle.mr_looks.proofs.posts.begin_look.Given as goal

-- those so far begin a look
abbrev pub invariant-loop-post : goal.invariant-loop-post
invariant-loop-post l = Walked IsBegun l.post-index l.fn.posts l.posts
