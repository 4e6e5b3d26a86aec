use Rattle.std.proofs.Common.{◌≡◌, ◌∙◌, arith, ℕ, List, Result, Err, refl, subst, sym, true, false}
use Rattle.mr_watch.specs.declared.finding.Findings.{Findings}
use Rattle.mr_looks.proofs.WatchLemmas.{IsUnderway, failed_so, lacks_behind, last_alone, looked_all, looked_last, looks_failed, seen_fleet, underway_at_first, underway_more}
use Rattle.mr_looks.specs.Posts.{addresses_of}
use Rattle.mr_looks.specs.Watch.{Fleet, Sight, WritesLook, WritesLooks, WritesView, fleet_of, fleet_seen, most_looks, sight}
use Rattle.mr_words.specs.declared.printing.PrintFault.{PrintFault}
use Rattle.mr_words.specs.declared.printing.PrintFault.TheVariants.{Memory}
use Rattle.mr_looks.proofs.watching.write_looks.Goals as goal
use Rattle.mr_looks.proofs.watching.write_looks.Goals.{then-once-via-then-once, then-once-via-else-once+then-found}

pub loop-number-init : goal.loop-number-init
loop-number-init g c =
    let output = g.O.Sink.told c.args.output.now in
    let fleet : Fleet = fleet_of c.args.config.now c.args.expected.now (addresses_of c.args.posts.now) in
    record {
      underway = subst (λ (f : Findings). IsUnderway c.args.manner c.args.once fleet c.args.posts.now output f true 0 output) (sym c.unseen-findings.ensures)
          (underway_at_first c.args.manner c.args.once fleet c.args.posts.now output c.requires);
      posts = refl;
    }

pub returns-in_err-seen : goal.returns-in_err-seen
returns-in_err-seen g c =
    let old = g.O.Sink.told c.args.output.now in
    let mid = g.O.Sink.told c.loop-number.output in
    let fleet : Fleet = fleet_of c.args.config.now c.args.expected.now (addresses_of c.args.posts.now) in
    failed_so (λ (r : Result Findings PrintFault). WritesLooks c.args.manner c.args.once fleet c.look.new.posts old r mid) c.from_residual.result Memory
    c.from_residual.ensures.1 (lacks_behind _ _ fleet c.loop-number.posts old mid mid _ _ _ c.loop-number.invariant.underway refl)

pub returns-in_err-found : goal.returns-in_err-found
returns-in_err-found g c =
    let old = g.O.Sink.told c.args.output.now in
    let mid = g.O.Sink.told c.loop-number.output in
    let new = g.O.Sink.told c.write_look.new.output in
    let addresses : List (List ℕ) = addresses_of c.args.posts.now in
    let fleet : Fleet = fleet_of c.args.config.now c.args.expected.now addresses in
    let posts : addresses_of c.look.new.posts ≡ addresses = c.look.ensures.addresses ∙ c.loop-number.invariant.posts in
    let saw : Sight = sight c.in_ok-seen.seen c.look.new.posts in
    let same : fleet_seen c.schedule-schedule.result c.args.expected.now saw ≡ fleet =
    seen_fleet c.args.config.now c.routing.result.now c.args.expected.now c.schedule-schedule.result saw addresses
    c.schedule-schedule.ensures.schedule c.in_ok-seen.ensures.nodes c.routing.ensures.routing posts in
    let fault = c.in_err-found.field-0.0 in
    let wrote : WritesLook c.args.manner fleet c.loop-number.first c.loop-number.findings saw mid (Err fault) new =
    subst (λ (f : Fleet). WritesLook c.args.manner f c.loop-number.first c.loop-number.findings saw mid (Err fault) new) same c.in_err-found.ensures in
    looks_failed _ _ fleet c.loop-number.posts c.look.new.posts saw old mid new _ _ _ fault c.from_residual-in_err-found.result
    c.from_residual-in_err-found.ensures.1 c.loop-number.invariant.underway wrote

pub returns-then-once : goal.returns-then-once
returns-then-once g c =
    let old = g.O.Sink.told c.args.output.now in
    let mid = g.O.Sink.told c.loop-number.output in
    let new = g.O.Sink.told c.write_look.new.output in
    let addresses : List (List ℕ) = addresses_of c.args.posts.now in
    let fleet : Fleet = fleet_of c.args.config.now c.args.expected.now addresses in
    let posts : addresses_of c.look.new.posts ≡ addresses = c.look.ensures.addresses ∙ c.loop-number.invariant.posts in
    let saw : Sight = sight c.in_ok-seen.seen c.look.new.posts in
    let same : fleet_seen c.schedule-schedule.result c.args.expected.now saw ≡ fleet =
    seen_fleet c.args.config.now c.routing.result.now c.args.expected.now c.schedule-schedule.result saw addresses
    c.schedule-schedule.ensures.schedule c.in_ok-seen.ensures.nodes c.routing.ensures.routing posts in
    let view : WritesView c.args.manner fleet c.loop-number.first c.loop-number.findings saw mid c.in_ok-found.found new =
    subst (λ (f : Fleet). WritesView c.args.manner f c.loop-number.first c.loop-number.findings saw mid c.in_ok-found.found new) same c.in_ok-found.ensures in
    let last : c.args.once ≡ false → c.in_ok-found.found.migrated ≡ true = elim c.then-once.branch [
      | then-once-via-then-once w ↦ last_alone c.args.once c.in_ok-found.found.migrated w.if-once.true
      | then-once-via-else-once+then-found w ↦ λ more. w.if-found.true
    ] in
    looked_last _ _ fleet c.loop-number.posts saw old mid new _ _ _ c.in_ok-found.found c.in_ok-seen.ensures.looked c.loop-number.invariant.underway view last

pub loop-number-preserved : goal.loop-number-preserved
loop-number-preserved g c =
    let old = g.O.Sink.told c.args.output.now in
    let mid = g.O.Sink.told c.loop-number.output in
    let new = g.O.Sink.told c.write_look.new.output in
    let addresses : List (List ℕ) = addresses_of c.args.posts.now in
    let fleet : Fleet = fleet_of c.args.config.now c.args.expected.now addresses in
    let posts : addresses_of c.look.new.posts ≡ addresses = c.look.ensures.addresses ∙ c.loop-number.invariant.posts in
    let saw : Sight = sight c.in_ok-seen.seen c.look.new.posts in
    let same : fleet_seen c.schedule-schedule.result c.args.expected.now saw ≡ fleet =
    seen_fleet c.args.config.now c.routing.result.now c.args.expected.now c.schedule-schedule.result saw addresses
    c.schedule-schedule.ensures.schedule c.in_ok-seen.ensures.nodes c.routing.ensures.routing posts in
    let view : WritesView c.args.manner fleet c.loop-number.first c.loop-number.findings saw mid c.in_ok-found.found new =
    subst (λ (f : Fleet). WritesView c.args.manner f c.loop-number.first c.loop-number.findings saw mid c.in_ok-found.found new) same c.in_ok-found.ensures in
    record {
      underway = underway_more _ _ fleet c.loop-number.posts saw old mid new _ _ _ c.in_ok-found.found c.in_ok-seen.ensures.looked
          c.loop-number.invariant.underway view c.if-once.false c.if-found.false;
      posts = posts;
    }

pub returns : goal.returns
returns g c =
    let old = g.O.Sink.told c.args.output.now in
    let new = g.O.Sink.told c.loop-number.output in
    let fleet : Fleet = fleet_of c.args.config.now c.args.expected.now (addresses_of c.args.posts.now) in
    let all : c.loop-number.number ≡ most_looks = omega arith in
    looked_all _ _ fleet c.loop-number.posts old new _ _ _ c.loop-number.invariant.underway all
