-- The premises after a run are those before it and what its events keep.
use Rattle.std.proofs.Common.{◌≡◌, ◌↔◌, ℕ, ◌≤◌, Bool, true, false, not, IsTrue, List, [], ◌∷◌, map, fold, refl, sym, ap, ◌∙◌, subst, arith}
use Rattle.std.proofs.lemmas.Bool.{leb-true, le-leb}
use Rattle.std.proofs.lemmas.List.Sums.{fold-append}
use Rattle.mr_text.specs.declared.request.Request.{Request}
use Rattle.mr_text.specs.declared.request.Request.TheVariants as request
use Rattle.mr_clock.specs.Readings.{ReadingsView, AreWithin, Tick, spread_of, readings_after}
use Rattle.mr_clock.specs.Clocks.{NeverGoesBack, StayWithin}
use Rattle.mr_world.specs.declared.event.Event.{Event}
use Rattle.mr_world.specs.declared.event.Event.TheVariants.{Clock, Client, Deliver, Return, GiveUp, NodeRestart, ProxyRestart}
use Rattle.mr_world.specs.declared.note.Note.{Note}
use Rattle.mr_world.specs.Premises.{ticks_in, ticks_of, premises_of, PremisesAtFirst, PremisesAfter}
use Rattle.mr_world.specs.Setup.{SetupView, least_interval_of, Begins}
use Rattle.mr_world.specs.Steps.{ClientAsks, WorldStep, WorldRun}
use Rattle.mr_world.specs.WorldView.{WorldView}

-- what a step does to the readings and to what the setup says
pub record Turns (old : WorldView) (ticks : List Tick) (new : WorldView) : Type 0 where
  pub readings : new.readings ≡ fold readings_after old.readings ticks
  pub terms : new.terms ≡ old.terms

asked_turns : (old : WorldView) (n : ℕ) (q : Request) (note : Note) (new : WorldView) → ClientAsks old n q note new → Turns old [] new
asked_turns old n (request.Get keys) note new s = record { readings = ap (λ (w : WorldView). w.readings) s.becomes; terms = ap (λ (w : WorldView). w.terms) s.becomes }
asked_turns old n (request.Set key flags exptime block noreply) note new s = record { readings = ap (λ (w : WorldView). w.readings) s.becomes; terms = ap (λ (w : WorldView). w.terms) s.becomes }
asked_turns old n (request.Delete key noreply) note new s = record { readings = ap (λ (w : WorldView). w.readings) s.becomes; terms = ap (λ (w : WorldView). w.terms) s.becomes }
asked_turns old n request.Quit note new s = record { readings = ap (λ (w : WorldView). w.readings) s.becomes; terms = ap (λ (w : WorldView). w.terms) s.becomes }

pub step_turns : (old : WorldView) (event : Event) (note : Note) (new : WorldView) → WorldStep old event note new → Turns old (ticks_in event) new
step_turns old (Clock proxy reading) note new s = record { readings = ap (λ (w : WorldView). w.readings) s.becomes; terms = ap (λ (w : WorldView). w.terms) s.becomes }
step_turns old (Client proxy request) note new s = asked_turns old proxy request note new s
step_turns old (Deliver message now) note new s = record { readings = ap (λ (w : WorldView). w.readings) s.becomes; terms = ap (λ (w : WorldView). w.terms) s.becomes }
step_turns old (Return reply) note new s = record { readings = ap (λ (w : WorldView). w.readings) s.becomes; terms = ap (λ (w : WorldView). w.terms) s.becomes }
step_turns old (GiveUp op) note new s = record { readings = ap (λ (w : WorldView). w.readings) s.becomes; terms = ap (λ (w : WorldView). w.terms) s.becomes }
step_turns old (NodeRestart node) note new s = record { readings = ap (λ (w : WorldView). w.readings) s.becomes; terms = ap (λ (w : WorldView). w.terms) s.becomes }
step_turns old (ProxyRestart proxy) note new s = record { readings = ap (λ (w : WorldView). w.readings) s.becomes; terms = ap (λ (w : WorldView). w.terms) s.becomes }

run_turns : (old : WorldView) (events : List Event) (new : WorldView) → WorldRun old events new → Turns old (ticks_of events) new
run_turns old [] new run = record { readings = ap (λ (w : WorldView). w.readings) run; terms = ap (λ (w : WorldView). w.terms) run }
run_turns old (event ∷ events) new (middle, note, step, rest) =
    let first = step_turns old event note middle step in
    let later = run_turns middle events new rest in
    record {
      readings = later.readings ∙ ap (λ r. fold readings_after r (ticks_of events)) first.readings
          ∙ sym (fold-append readings_after old.readings (ticks_in event) (ticks_of events));
      terms = later.terms ∙ first.terms;
    }

-- the laws of the clocks
pub record ClockLaws : Type 0 where
  pub within : (most : ℕ) (readings : List ℕ) → (spread_of readings ≤ most) ↔ AreWithin most readings
  pub lowering : (view : ReadingsView) (ticks : List Tick)
      → ((fold readings_after view ticks).went_back ≡ false) ↔ ((view.went_back ≡ false) × NeverGoesBack view.standing ticks)
  pub spread : (most : ℕ) (view : ReadingsView) (ticks : List Tick) → AreWithin view.spread view.standing
      → ((fold readings_after view ticks).spread ≤ most) ↔ ((view.spread ≤ most) × StayWithin most view.standing ticks)

not_true : (b : Bool) → IsTrue (not b) → b ≡ false
not_true true h = cc
not_true false h = refl

true_not : (b : Bool) → b ≡ false → IsTrue (not b)
true_not b e = rw e refl

pub turned_premises : ClockLaws → (old : WorldView) (events : List Event) (new : WorldView) → AreWithin old.readings.spread old.readings.standing
    → Turns old (ticks_of events) new → PremisesAfter old events (premises_of new)
turned_premises L old events new within t =
    let ticks = ticks_of events in
    let lowering = L.lowering old.readings ticks in
    let spread = L.spread old.terms.least old.readings ticks within in
    let back : new.readings.went_back ≡ (fold readings_after old.readings ticks).went_back = ap (λ (r : ReadingsView). r.went_back) t.readings in
    let far : new.readings.spread ≡ (fold readings_after old.readings ticks).spread = ap (λ (r : ReadingsView). r.spread) t.readings in
    let least : new.terms.least ≡ old.terms.least = ap (λ x. x.least) t.terms in
    record {
      same = ap (λ x. x.same) t.terms;
      new_empty = ap (λ x. x.new_empty) t.terms;
      forward = (
        λ h. let both = lowering.0 (sym back ∙ not_true new.readings.went_back h) in (true_not old.readings.went_back (both.0), both.1),
        λ both. true_not new.readings.went_back (back ∙ lowering.1 (not_true old.readings.went_back (both.0), both.1)),
      );
      near = (
        λ h.
            let below = leb-true new.readings.spread new.terms.least h in
            let both = spread.0 (omega arith) in
            (le-leb old.readings.spread old.terms.least (both.0), both.1),
        λ both.
            let below = spread.1 (leb-true old.readings.spread old.terms.least (both.0), both.1) in
            le-leb new.readings.spread new.terms.least (omega arith),
      );
    }

pub run_premises : ClockLaws → (old : WorldView) (events : List Event) (new : WorldView) → AreWithin old.readings.spread old.readings.standing
    → WorldRun old events new → PremisesAfter old events (premises_of new)
run_premises L old events new within run = turned_premises L old events new within (run_turns old events new run)

pub first_premises : ((most : ℕ) (readings : List ℕ) → (spread_of readings ≤ most) ↔ AreWithin most readings) → (setup : SetupView) (w : WorldView) → Begins setup w → PremisesAtFirst setup (premises_of w)
first_premises within setup w b =
    let readings = map (λ proxy. proxy.reading) setup.proxies in
    let law = within (least_interval_of setup.proxies) readings in
    let far : w.readings.spread ≡ spread_of readings = ap (λ (r : ReadingsView). r.spread) b.readings in
    let back : w.readings.went_back ≡ false = ap (λ (r : ReadingsView). r.went_back) b.readings in
    let least = b.least in
    record {
      same = b.same;
      new_empty = b.new_empty;
      forward = true_not w.readings.went_back back;
      near = (
        λ h. let below = leb-true w.readings.spread w.terms.least h in law.0 (omega arith),
        λ h. let below = law.1 h in le-leb w.readings.spread w.terms.least (omega arith),
      );
    }

-- of a fleet at the beginning no two readings differ by more than is told
pub first_within : ((most : ℕ) (readings : List ℕ) → (spread_of readings ≤ most) ↔ AreWithin most readings) → (setup : SetupView) (w : WorldView) → Begins setup w
    → AreWithin w.readings.spread w.readings.standing
first_within within setup w b =
    let readings = map (λ proxy. proxy.reading) setup.proxies in
    subst (λ (r : ReadingsView). AreWithin r.spread r.standing) (sym b.readings) ((within (spread_of readings) readings).0 (omega arith))
