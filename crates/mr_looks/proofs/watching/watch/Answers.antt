use Rattle.std.proofs.Common.{◌≡◌, ◌∙◌, arith, ℕ, Bool, List, length, Result, Err, subst, sym}
use Rattle.mr_looks.proofs.PostLemmas.{all_of}
use Rattle.mr_looks.proofs.WatchLemmas.{failed_so, nothing_watched, watch_ended, watch_failed}
use Rattle.mr_looks.specs.Posts.{addresses_of}
use Rattle.mr_looks.specs.Watch.{Fleet, HasLooked, WatchesConfig, WritesLooks, fleet_of}
use Rattle.mr_looks.specs.WatchText.{manner_of}
use Rattle.mr_words.specs.declared.printing.PrintFault.{PrintFault}
use Rattle.mr_words.specs.declared.printing.PrintFault.TheVariants.{Memory}
use Rattle.mr_looks.specs.declared.manner.Manner.{Manner}
use Rattle.mr_looks.specs.declared.posts.Post.{Post}
use Rattle.mr_words.specs.Words.{addresses_in}
use Rattle.mr_looks.proofs.watching.watch.Goals as goal

pub returns-in_err-posts : goal.returns-in_err-posts
returns-in_err-posts g c =
    let fleet : Fleet = fleet_of c.args.config.now c.args.expected.now (addresses_in c.args.values.now) in
    let manner : Manner = manner_of c.args.values.now.json c.args.values.now.once c.args.servers.now.screen in
    let output = g.O.Sink.told c.args.output.now in
    failed_so (λ (r : Result Bool PrintFault). WatchesConfig manner c.args.values.now.once fleet output r output) c.from_residual.result Memory
    c.from_residual.ensures.1 (nothing_watched manner _ fleet output)

pub returns-in_err-findings : goal.returns-in_err-findings
returns-in_err-findings g c =
    let fleet : Fleet = fleet_of c.args.config.now c.args.expected.now (addresses_in c.args.values.now) in
    let once = c.args.values.now.once in
    let manner : Manner = manner_of c.args.values.now.json once c.args.servers.now.screen in
    let old = g.O.Sink.told c.args.output.now in
    let new = g.O.Sink.told c.write_looks.new.output in
    let posts = c.write_looks.new.posts in
    let fault = c.in_err-findings.field-0.0 in
    let asked : addresses_of c.as_mut_slice.result.now ≡ addresses_in c.args.values.now =
    cc (c.as_mut_slice.ensures.value, c.in_ok-posts.ensures.addresses, c.addresses.ensures) in
    let is : c.manner_of-manner.result ≡ manner = cc (c.manner_of-manner.ensures, c.screen.ensures) in
    let of_fleet : WritesLooks c.manner_of-manner.result once fleet posts old (Err fault) new =
    subst (λ (a : List (List ℕ)). WritesLooks c.manner_of-manner.result once (fleet_of c.args.config.now c.args.expected.now a) posts old (Err fault) new)
    asked c.in_err-findings.ensures in
    let wrote : WritesLooks manner once fleet posts old (Err fault) new =
    subst (λ (m : Manner). WritesLooks m once fleet posts old (Err fault) new) is of_fleet in
    watch_failed manner once fleet posts old new fault _ c.from_residual-in_err-findings.ensures.1 wrote

pub returns : goal.returns
returns g c =
    let fleet : Fleet = fleet_of c.args.config.now c.args.expected.now (addresses_in c.args.values.now) in
    let once = c.args.values.now.once in
    let manner : Manner = manner_of c.args.values.now.json once c.args.servers.now.screen in
    let old = g.O.Sink.told c.args.output.now in
    let mid = g.O.Sink.told c.write_looks.new.output in
    let new = g.O.Sink.told c.end_watch.new.output in
    let findings = c.in_ok-findings.findings in
    let asked : addresses_of c.as_mut_slice.result.now ≡ addresses_in c.args.values.now =
    cc (c.as_mut_slice.ensures.value, c.in_ok-posts.ensures.addresses, c.addresses.ensures) in
    let is : c.manner_of-manner.result ≡ manner = cc (c.manner_of-manner.ensures, c.screen.ensures) in
    let count : length c.write_looks.new.posts ≡ c.in_ok-posts.posts.len = omega (arith, c.write_looks.auto.posts, c.as_mut_slice.ensures.len) in
    let same : c.as_slice.result.now ≡ c.write_looks.new.posts = c.as_slice.ensures.value ∙ all_of _ c.write_looks.new.posts _ count in
    let of_fleet : HasLooked c.manner_of-manner.result once fleet c.write_looks.new.posts old findings mid =
    subst (λ (a : List (List ℕ)). HasLooked c.manner_of-manner.result once (fleet_of c.args.config.now c.args.expected.now a) c.write_looks.new.posts old findings mid)
    asked c.in_ok-findings.ensures in
    let looked : HasLooked c.manner_of-manner.result once fleet c.as_slice.result.now old findings mid =
    subst (λ (p : List Post). HasLooked c.manner_of-manner.result once fleet p old findings mid) (sym same) of_fleet in
    subst (λ (m : Manner). WatchesConfig m once fleet old c.end_watch.result new) is
    (watch_ended c.manner_of-manner.result once fleet old mid new c.as_slice.result.now findings c.end_watch.result looked c.end_watch.ensures)
