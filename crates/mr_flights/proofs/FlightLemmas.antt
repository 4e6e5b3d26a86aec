-- What one more second, a failed write and the ending say of a whole flight.
use Rattle.std.proofs.Common.{arith, ◌≡◌, ◌+◌, ◌≤◌, ◌∙◌, ℕ, Bool, true, false, List, [], ◌∷◌, length, Result, Ok, Err, IsErrAnd, refl, ap, subst, sym, inl, inr, nat_le, if◌then◌else◌, le-leb, leb-true}
use Rattle.std.specs.Prelude.{⊤}
use Rattle.mr_counting.specs.Counting.{one_more}
use Rattle.mr_configs.specs.Config.{ConfigView}
use Rattle.mr_flights.specs.Faults.{fault_of_opening}
use Rattle.mr_driver.proofs.GoingLemmas.{through}
use Rattle.mr_driver.specs.Going.{GoesOn}
use Rattle.mr_flights.specs.Flight.{AreAll, FliesConfig, FliesOut, FliesSeconds, HasBegun, HasCleaned, HasFlown, HasShown, StopsBetween, WritesEnding, all_shown, is_over, most_of, scene_by, verdict_of}
use Rattle.mr_flights.specs.Flock.{CanaryStep}
use Rattle.mr_flights.specs.Log.{LogView, Sights, fresh_log, is_migrated, log_of, with_second}
use Rattle.mr_flights.specs.Scene.{SceneView}
use Rattle.mr_flights.specs.Seeing.{HasSeen, IsSight, WritesSecond}
use Rattle.mr_flights.specs.Plans.{MakesCanary}
use Rattle.mr_flights.specs.Showing.{ending, manner_of, shown}
use Rattle.mr_flights.specs.declared.fault.FlightFault.{FlightFault}
use Rattle.mr_flights.specs.declared.fault.FlightFault.TheVariants.{Memory, Write, NoNumber, BadPrefix, Net}
use Rattle.mr_flights.specs.declared.showing.Manner.{Manner}
use Rattle.mr_phases.specs.Schedule.{Hop}
use Rattle.mr_probes.specs.CanaryView.{CanaryView, begun_cleaning}
use Rattle.mr_sightings.specs.declared.second.Second.{Second}
use Rattle.mr_sightings.specs.declared.verdict.Verdict.{Verdict}
use Rattle.mr_text.proofs.Writes.{written_none, written_then}
use Rattle.mr_text.specs.Sink.{SinkView, HasWritten}
use Rattle.mr_servers.specs.declared.fault.OpenFault.{OpenFault}
use Rattle.mr_servers.specs.declared.fault.OpenFault.TheVariants as opening
use Rattle.mr_servers.specs.declared.screen.Screen.{Screen}
use Rattle.mr_words.specs.declared.canary_words.CanaryValues.{CanaryValues}
use Rattle.mr_words.specs.declared.canary_words.Span.{Span}
use Rattle.mr_words.specs.declared.canary_words.Span.TheVariants.{Seconds, UntilMigrated}

-- a canary may stay as it is
pub stays : (canary : CanaryView) → GoesOn CanaryStep canary canary
stays canary = GoesOn.stays

-- it goes on, and then further
pub went_on : (first between last : CanaryView) → GoesOn CanaryStep first between → GoesOn CanaryStep between last → GoesOn CanaryStep first last
went_on first between last = through CanaryStep first between last

-- So many seconds of a canary were written so far, and are kept, and the flight goes on behind them.
pub record IsUnderway
    (manner : Manner) (span : Span) (scene : SceneView) (first : CanaryView) (log : LogView) (last : CanaryView) (begin : SinkView) (number : ℕ) (now : SinkView)
    : Type 0 where
  pub sights : Sights
  pub shown : HasShown manner scene first sights last begin now
  pub kept : log ≡ log_of scene.hops sights
  pub count : length sights ≡ number
  pub waits : is_over span log ≡ false

goes_on : (span : Span) → is_over span fresh_log ≡ false
goes_on (Seconds seconds) = refl
goes_on UntilMigrated = refl

pub underway_at_first : (manner : Manner) (span : Span) (scene : SceneView) (first : CanaryView) (log : LogView) (w : SinkView) → log ≡ fresh_log
    → IsUnderway manner span scene first log first w 0 w
underway_at_first manner span scene first log w fresh = record {
  sights = [];
  shown = record { are_sights = refl; writes = written_none w };
  kept = fresh;
  count = refl;
  waits = subst (λ (l : LogView). is_over span l ≡ false) (sym fresh) (goes_on span);
}

-- one second adds one at most to those in the last phase
migrated_step : (hops : List Hop) (second : Second) (log : LogView) → (with_second hops second log).migrated ≤ log.migrated + 1
migrated_step hops second log = go (is_migrated hops second)
  where
    go : (b : Bool) → (if b then one_more log.migrated else log.migrated) ≤ log.migrated + 1
    go true = omega arith
    go false = omega arith

-- ten of them were in the last phase, where nine at most were before
ten_now : (before after : ℕ) → after ≤ before + 1 → nat_le 10 before ≡ false → nat_le 10 after ≡ true → after ≡ 10
ten_now before after step waits over = go (nat_le 10 before) refl
  where
    go : (b : Bool) → nat_le 10 before ≡ b → after ≡ 10
    go true is = let never : true ≡ false = sym is ∙ waits in cc
    go false is =
        let now : 10 ≤ after = leb-true 10 after over in
        let early : ¬ (10 ≤ before) = λ much. let never : false ≡ true = sym is ∙ le-leb 10 before much in cc in
        omega arith

-- one second more
module _ (manner : Manner) (span : Span) (scene : SceneView) (first : CanaryView) (log after : LogView) (last : CanaryView) (begin mid new : SinkView)
    (number at : ℕ) (canary left : CanaryView) (u : IsUnderway manner span scene first log last begin number mid) (w : GoesOn CanaryStep last canary)
    (s : HasSeen manner scene at canary left log after mid new) where
  shown_more : HasShown manner scene first (s.sight ∷ u.sights) left begin new
  shown_more = record {
    are_sights = (last, canary, u.shown.are_sights, w, subst (λ (l : LogView). IsSight scene l.came_back canary s.sight) u.kept s.is_sight, s.anew);
    writes = written_then (all_shown manner u.sights) (shown manner s.sight) begin mid new u.shown.writes s.writes;
  }

  kept_more : after ≡ log_of scene.hops (s.sight ∷ u.sights)
  kept_more = s.kept ∙ ap (with_second scene.hops s.sight.second) u.kept

  -- the flight goes on
  pub underway_more : is_over span after ≡ false → IsUnderway manner span scene first after left begin (number + 1) new
  underway_more waits = record {
    sights = s.sight ∷ u.sights;
    shown = shown_more;
    kept = kept_more;
    count = let count : length u.sights ≡ number = u.count in omega arith;
    waits = waits;
  }

  -- it is over
  over_all : (span : Span) → is_over span log ≡ false → is_over span after ≡ true → AreAll span scene (s.sight ∷ u.sights)
  over_all (Seconds seconds) waits over = let never : false ≡ true = over in cc
  over_all UntilMigrated waits over =
      let step : after.migrated ≤ log.migrated + 1 =
      subst (λ (l : LogView). l.migrated ≤ log.migrated + 1) (sym s.kept) (migrated_step scene.hops s.sight.second log) in
      inl (sym (ap (λ (l : LogView). l.migrated) kept_more) ∙ ten_now log.migrated after.migrated step waits over)

  pub flown_early : is_over span after ≡ true → HasFlown manner span scene first after left begin new
  flown_early over = record { sights = s.sight ∷ u.sights; shown = shown_more; all = over_all span u.waits over; kept = kept_more }

-- there are as many seconds as there may be
most_all : (span : Span) (scene : SceneView) (sights : Sights) → length sights ≡ most_of span → AreAll span scene sights
most_all (Seconds seconds) scene sights count = count
most_all UntilMigrated scene sights count = inr count

pub flown_all : (manner : Manner) (span : Span) (scene : SceneView) (first : CanaryView) (log : LogView) (last : CanaryView) (begin new : SinkView) (number : ℕ)
    → IsUnderway manner span scene first log last begin number new → number ≡ most_of span → HasFlown manner span scene first log last begin new
flown_all manner span scene first log last begin new number u all =
    record { sights = u.sights; shown = u.shown; all = most_all span scene u.sights (u.count ∙ all); kept = u.kept }

-- what holds of a fault holds of a result that is it
pub failed_so : {T : Type 0} (holds : Result T FlightFault → Type 0) (result : Result T FlightFault) (failed : FlightFault)
    → IsErrAnd result (λ other. other ≡ failed) → holds (Err failed) → holds result
failed_so holds (Ok value) failed is of_failed = absurd is
failed_so holds (Err other) failed is of_failed = subst (λ (f : FlightFault). holds (Err f)) (sym is) of_failed

-- nothing more was written than the seconds so far
pub stops_between : (manner : Manner) (span : Span) (scene : SceneView) (first : CanaryView) (log : LogView) (last : CanaryView) (begin mid new : SinkView)
    (number : ℕ) → IsUnderway manner span scene first log last begin number mid → new ≡ mid → StopsBetween manner scene first begin new
stops_between manner span scene first log last begin mid new number u same = record {
  sights = u.sights;
  last = last;
  shown = subst (λ (w : SinkView). HasShown manner scene first u.sights last begin w) (sym same) u.shown;
}

-- the loop couldn't be driven, which is passed on
pub drive_failed : (manner : Manner) (span : Span) (scene : SceneView) (first : CanaryView) (log final : LogView) (last left : CanaryView)
    (begin mid : SinkView) (number : ℕ) (failed : FlightFault) (result : Result (Unit {0}) FlightFault) → IsErrAnd result (λ other. other ≡ failed) → failed ≡ Net
    → IsUnderway manner span scene first log last begin number mid → FliesSeconds manner span scene first final left begin result mid
drive_failed manner span scene first log final last left begin mid number failed result is net u =
    failed_so (λ (r : Result (Unit {0}) FlightFault). FliesSeconds manner span scene first final left begin r mid) result failed is
    (subst (λ (f : FlightFault). FliesSeconds manner span scene first final left begin (Err f) mid) (sym net)
    (stops_between manner span scene first log last begin mid mid number u refl))

-- a second that wasn't written, which is passed on
pub second_failed : (manner : Manner) (span : Span) (scene : SceneView) (first : CanaryView) (log after final : LogView) (last behind : CanaryView)
    (begin mid new : SinkView) (number at : ℕ) (canary left : CanaryView) (failed : FlightFault) (result : Result (Unit {0}) FlightFault)
    → IsErrAnd result (λ other. other ≡ failed) → IsUnderway manner span scene first log last begin number mid
    → WritesSecond manner scene at canary left log after mid (Err failed) new → FliesSeconds manner span scene first final behind begin result new
second_failed manner span scene first log after final last behind begin mid new number at canary left failed result is u wrote =
    failed_so (λ (r : Result (Unit {0}) FlightFault). FliesSeconds manner span scene first final behind begin r new) result failed is (passed failed wrote)
  where
    passed : (failed : FlightFault) → WritesSecond manner scene at canary left log after mid (Err failed) new
        → FliesSeconds manner span scene first final behind begin (Err failed) new
    passed Write wrote = record { sights = u.sights; last = last; between = mid; shown = u.shown; text = wrote.0; fails = wrote.1 }
    passed Memory wrote = stops_between manner span scene first log last begin mid new number u wrote
    passed NoNumber wrote = absurd wrote
    passed BadPrefix wrote = absurd wrote
    passed Net wrote = absurd wrote

-- the last second and the ending
module _ (manner : Manner) (span : Span) (scene : SceneView) (first : CanaryView) (log : LogView) (before : CanaryView) (begin old : SinkView)
    (f : HasFlown manner span scene first log before begin old) where
  -- the last second wasn't written
  pub last_failed : (after : LogView) (new : SinkView) (at : ℕ) (canary left : CanaryView) (failed : FlightFault) (result : Result Bool FlightFault)
      → IsErrAnd result (λ other. other ≡ failed) → WritesSecond manner scene at canary left log after old (Err failed) new
      → FliesOut manner span scene first begin result new
  last_failed after new at canary left failed result is wrote =
      failed_so (λ (r : Result Bool FlightFault). FliesOut manner span scene first begin r new) result failed is (passed failed wrote)
    where
      passed : (failed : FlightFault) → WritesSecond manner scene at canary left log after old (Err failed) new
          → FliesOut manner span scene first begin (Err failed) new
      passed Write wrote = inl (record { sights = f.sights; last = before; between = old; shown = f.shown; text = wrote.0; fails = wrote.1 })
      passed Memory wrote = inl (record {
        sights = f.sights;
        last = before;
        shown = subst (λ (w : SinkView). HasShown manner scene first f.sights before begin w) (sym wrote) f.shown;
      })
      passed NoNumber wrote = absurd wrote
      passed BadPrefix wrote = absurd wrote
      passed Net wrote = absurd wrote

  -- it was, and this came of the ending
  module _ (after : LogView) (mid new : SinkView) (at : ℕ) (canary left : CanaryView) (w : GoesOn CanaryStep (begun_cleaning before) canary)
      (s : HasSeen manner scene at canary left log after old mid) where
    has_cleaned : HasCleaned manner span scene first f.sights s.sight canary begin mid
    has_cleaned = record {
      before = before;
      are_sights = f.shown.are_sights;
      all = f.all;
      cleans = w;
      is_last = subst (λ (l : LogView). IsSight scene l.came_back canary s.sight) f.kept s.is_sight;
      writes = written_then (all_shown manner f.sights) (shown manner s.sight) begin old mid f.shown.writes s.writes;
    }

    last_kept : after ≡ log_of scene.hops (s.sight ∷ f.sights)
    last_kept = s.kept ∙ ap (with_second scene.hops s.sight.second) f.kept

    -- the canary is no other one than before its second was taken
    same_canary : (sound : Bool) → WritesEnding manner scene left after mid (Ok sound) new → WritesEnding manner scene canary after mid (Ok sound) new
    same_canary sound = subst (λ (c : CanaryView). WritesEnding manner scene c after mid (Ok sound) new → WritesEnding manner scene canary after mid (Ok sound) new)
        (sym s.anew) (λ e. (e.0, record { counted = e.1.counted; judged = e.1.judged }))

    pub flight_ended : (result : Result Bool FlightFault) → WritesEnding manner scene left after mid result new
        → FliesOut manner span scene first begin result new
    flight_ended (Ok sound) wrote =
        let ended = same_canary sound wrote in
        let end : HasWritten (ending manner (log_of scene.hops (s.sight ∷ f.sights)).rows (verdict_of scene canary (log_of scene.hops (s.sight ∷ f.sights)))) mid new =
        subst (λ (l : LogView). HasWritten (ending manner l.rows (verdict_of scene canary l)) mid new) last_kept ended.0 in
        record { sights = f.sights; last = s.sight; canary = canary; between = mid; cleaned = has_cleaned; writes = end; is_sound = ended.1 }
    flight_ended (Err Write) wrote = inr (record {
      between = mid;
      stops = record { sights = f.sights; last = s.sight; canary = canary; cleaned = has_cleaned };
      text = wrote.0;
      fails = wrote.1;
    })
    flight_ended (Err Memory) wrote = inr (record {
      sights = f.sights;
      last = s.sight;
      canary = canary;
      cleaned = subst (λ (w : SinkView). HasCleaned manner span scene first f.sights s.sight canary begin w) (sym wrote) has_cleaned;
    })
    flight_ended (Err NoNumber) wrote = absurd wrote
    flight_ended (Err BadPrefix) wrote = absurd wrote
    flight_ended (Err Net) wrote = absurd wrote

abbrev verdict_by : ℕ → ℕ → ℕ → ℕ → ℕ → Verdict
verdict_by came_back requests proxies acknowledged left =
    record { came_back = came_back; requests = requests; proxies = proxies; acknowledged = acknowledged; left = left }

-- one verdict, part by part
pub same_verdict : (came_back requests proxies acknowledged left : ℕ) (came_back' requests' proxies' acknowledged' left' : ℕ)
    → came_back ≡ came_back' → requests ≡ requests' → proxies ≡ proxies' → acknowledged ≡ acknowledged' → left ≡ left'
    → verdict_by came_back requests proxies acknowledged left ≡ verdict_by came_back' requests' proxies' acknowledged' left'
same_verdict came_back requests proxies acknowledged left came_back' requests' proxies' acknowledged' left' c r p a l = rw (c, r, p, a, l) refl

-- the seconds weren't all written, and that is passed on
pub seconds_failed : (manner : Manner) (span : Span) (scene : SceneView) (first : CanaryView) (log : LogView) (last : CanaryView) (begin new : SinkView)
    (failed : FlightFault) (result : Result Bool FlightFault) → IsErrAnd result (λ other. other ≡ failed)
    → FliesSeconds manner span scene first log last begin (Err failed) new → FliesOut manner span scene first begin result new
seconds_failed manner span scene first log last begin new failed result is flew =
    failed_so (λ (r : Result Bool FlightFault). FliesOut manner span scene first begin r new) result failed is (passed failed flew)
  where
    passed : (failed : FlightFault) → FliesSeconds manner span scene first log last begin (Err failed) new
        → FliesOut manner span scene first begin (Err failed) new
    passed Write flew = inl flew
    passed Memory flew = inl flew
    passed Net flew = flew
    passed NoNumber flew = absurd flew
    passed BadPrefix flew = absurd flew

-- the loop couldn't be driven while the keys were deleted, and that is passed on
pub clean_failed : (manner : Manner) (span : Span) (scene : SceneView) (first : CanaryView) (log : LogView) (last : CanaryView) (begin new : SinkView)
    (failed : FlightFault) (result : Result Bool FlightFault) → IsErrAnd result (λ other. other ≡ failed) → failed ≡ Net
    → HasFlown manner span scene first log last begin new → FliesOut manner span scene first begin result new
clean_failed manner span scene first log last begin new failed result is net flown =
    failed_so (λ (r : Result Bool FlightFault). FliesOut manner span scene first begin r new) result failed is
    (subst (λ (f : FlightFault). FliesOut manner span scene first begin (Err f) new) (sym net)
    (record { sights = flown.sights; last = last; shown = flown.shown }))

-- why nothing is flown at all, and nothing is written
abbrev pub NeverFlies : FlightFault → Type 0
NeverFlies Memory = ⊤
NeverFlies Net = ⊤
NeverFlies failed = ⊥

module _ (values : CanaryValues) (screen : Screen) (config : ConfigView) (w : SinkView) where
  never : (failed : FlightFault) → NeverFlies failed → FliesConfig values screen config w (Err failed) w
  never Memory why = inl refl
  never Net why = inl refl
  never Write why = absurd why
  never NoNumber why = absurd why
  never BadPrefix why = absurd why

  pub never_flown : (failed : FlightFault) (result : Result Bool FlightFault) → IsErrAnd result (λ other. other ≡ failed) → NeverFlies failed
      → FliesConfig values screen config w result w
  never_flown failed result is why =
      failed_so (λ (r : Result Bool FlightFault). FliesConfig values screen config w r w) result failed is (never failed why)

  -- memory was refused for what it needs
  pub never_had : (result : Result Bool FlightFault) → IsErrAnd result (λ other. other ≡ Memory) → FliesConfig values screen config w result w
  never_had result is = never_flown Memory result is tt

  -- its loop wasn't opened
  unopened : (refused : OpenFault) → FliesConfig values screen config w (Err (fault_of_opening refused)) w
  unopened opening.OutOfMemory = never Memory tt
  unopened opening.Net = never Net tt
  unopened opening.Metrics = never Net tt

  pub never_opened : (refused : OpenFault) (result : Result Bool FlightFault) → IsErrAnd result (λ other. other ≡ fault_of_opening refused)
      → FliesConfig values screen config w result w
  never_opened refused result is =
      failed_so (λ (r : Result Bool FlightFault). FliesConfig values screen config w r w) result (fault_of_opening refused) is (unopened refused)

  -- the canary wasn't made
  unmade : (run : ℕ) (failed : FlightFault) → MakesCanary values config.routing run (Err failed) → FliesConfig values screen config w (Err failed) w
  unmade run Memory why = never Memory tt
  unmade run BadPrefix why = record { run = run; number = why.0; is_none = why.1; unwritten = refl }
  unmade run Write why = absurd why
  unmade run NoNumber why = absurd why
  unmade run Net why = absurd why

  pub never_made : (run : ℕ) (failed : FlightFault) (result : Result Bool FlightFault) → IsErrAnd result (λ other. other ≡ failed)
      → MakesCanary values config.routing run (Err failed) → FliesConfig values screen config w result w
  never_made run failed result is why =
      failed_so (λ (r : Result Bool FlightFault). FliesConfig values screen config w r w) result failed is (unmade run failed why)

-- what a flight came to is what the canary comes to
pub flown_out : (values : CanaryValues) (screen : Screen) (config : ConfigView) (manner : Manner) (scene : SceneView) (first : CanaryView)
    (old new : SinkView) (result : Result Bool FlightFault) → manner ≡ manner_of values.json screen → scene ≡ scene_by values config scene.begun
    → HasBegun values config first → FliesOut manner values.span scene first old result new → FliesConfig values screen config old result new
flown_out values screen config manner scene first old new result same_manner same_scene has_begun flew =
    by_result result
    (subst (λ (m : Manner). FliesOut m values.span (scene_by values config scene.begun) first old result new) same_manner
    (subst (λ (s : SceneView). FliesOut manner values.span s first old result new) same_scene flew))
  where
    by_result : (result : Result Bool FlightFault) → FliesOut (manner_of values.json screen) values.span (scene_by values config scene.begun) first old result new
        → FliesConfig values screen config old result new
    by_result (Ok sound) flew = record { first = first; has_begun = has_begun; begun = scene.begun; flies = flew }
    by_result (Err Write) flew = record { first = first; has_begun = has_begun; begun = scene.begun; flies = flew }
    by_result (Err Memory) flew = inr (record { first = first; has_begun = has_begun; begun = scene.begun; flies = flew })
    by_result (Err Net) flew = inr (record { first = first; has_begun = has_begun; begun = scene.begun; flies = flew })
    by_result (Err NoNumber) flew = absurd flew
    by_result (Err BadPrefix) flew = absurd flew
