use Rattle.std.proofs.Common.{◌≡◌, ◌<◌, ◌≤◌, arith, length, refl}
use Rattle.mr_looks.proofs.PostLemmas.{addresses_kept, other_keeps, walked_addresses, walked_all, walked_long, walked_one}
use Rattle.mr_looks.specs.Posts.{IsAskedAsOther}
use Rattle.mr_looks.proofs.posts.ask_others.Goals as goal

pub loop-post-init : goal.loop-post-init
loop-post-init g c = refl

pub loop-post-preserved : goal.loop-post-preserved
loop-post-preserved g c =
    let long : length c.loop-post.posts ≡ length c.args.posts.now = walked_long IsAskedAsOther _ _ _ c.loop-post.invariant in
    let within : c.loop-post.post-index < length c.args.posts.now = omega arith in
    walked_one IsAskedAsOther _ _ _ c.ask_as_other.new.self c.post-item.result within c.loop-post.invariant c.in_ok-ask_as_other.ensures.asked

pub returns-in_err-ask_as_other-clause-addresses : goal.returns-in_err-ask_as_other-clause-addresses
returns-in_err-ask_as_other-clause-addresses g c =
    addresses_kept _ c.loop-post.posts c.loop-post.post-index c.ask_as_other.new.self c.post-item.result c.in_err-ask_as_other.ensures.kept
    (walked_addresses IsAskedAsOther other_keeps _ _ _ c.loop-post.invariant)

pub returns-clause-asked : goal.returns-clause-asked
returns-clause-asked g c =
    let long : length c.loop-post.posts ≡ length c.args.posts.now = walked_long IsAskedAsOther _ _ _ c.loop-post.invariant in
    let all : length c.args.posts.now ≤ c.loop-post.post-index = omega arith in
    walked_all IsAskedAsOther _ _ _ all c.loop-post.invariant

pub returns-clause-addresses : goal.returns-clause-addresses
returns-clause-addresses g c = walked_addresses IsAskedAsOther other_keeps _ _ _ c.loop-post.invariant
