use Rattle.std.proofs.Common.{◌≡◌, ◌<◌, ◌≤◌, arith, length, refl}
use Rattle.mr_looks.proofs.PostLemmas.{IsBegun, all_begun, walked_long, walked_one}
use Rattle.mr_looks.proofs.posts.begin_look.Goals as goal

pub loop-post-init : goal.loop-post-init
loop-post-init c = refl

pub loop-post-preserved : goal.loop-post-preserved
loop-post-preserved c =
    let long : length c.loop-post.posts ≡ length c.args.posts.now = walked_long IsBegun _ _ _ c.loop-post.invariant in
    let within : c.loop-post.post-index < length c.args.posts.now = omega arith in
    walked_one IsBegun _ _ _ c.begin_look.new.self c.post-item.result within c.loop-post.invariant c.begin_look.ensures

pub returns : goal.returns
returns c =
    let long : length c.loop-post.posts ≡ length c.args.posts.now = walked_long IsBegun _ _ _ c.loop-post.invariant in
    let all : length c.args.posts.now ≤ c.loop-post.post-index = omega arith in
    all_begun _ _ _ all c.loop-post.invariant
