-- Whatever happens to streams is some events of the world, in which legs may fail.
use Rattle.std.proofs.Common.{All, List, [], slice_set, refl}
use Rattle.mr_clock.specs.Readings.{Tick}
use Rattle.mr_world.specs.Headline.{IsPlan}
use Rattle.mr_world.specs.Setup.{SetupView, Begins}
use Rattle.mr_world.specs.WorldView.{WorldView}
use Rattle.mr_world.specs.declared.setup.ProxySetup.{ProxySetup}
use Rattle.mr_streams.specs.Headline.{Starts, HasText}
use Rattle.mr_streams.specs.Refines.{ReachesWorld}
use Rattle.mr_streams.specs.Steps.{StreamsStep, StreamsRun, with_loop, with_entries}
use Rattle.mr_streams.specs.StreamsView.{StreamsView}
use Rattle.mr_streams.proofs.ClientEvents.{proxy_runs}
use Rattle.mr_streams.proofs.Connecting.{connects, runs_behind}
use Rattle.mr_streams.proofs.Exchanges.{RequestLaws}
use Rattle.mr_streams.proofs.LinkEvents.{link_runs}
use Rattle.mr_streams.proofs.LoopMoves.{runs_visited}
use Rattle.mr_streams.proofs.Mirrors.{MirrorsStreams, RunsTo}
use Rattle.mr_streams.proofs.NodeEvents.{ticks_on, node_runs, gains_place, restarts_node}
use Rattle.mr_streams.proofs.Placing.{SheetLaws}
use Rattle.mr_streams.proofs.Spellings.{ReplyLaws}
use Rattle.mr_streams.proofs.Starting.{starts_mirrored}

-- what is known of texts and of sheets
pub record StreamLaws : Type 0 where
  pub replies : ReplyLaws
  pub requests : RequestLaws
  pub sheets : SheetLaws

pub step_runs : StreamLaws → (w : WorldView) (s s' : StreamsView) (ticks : List Tick) → MirrorsStreams w s → StreamsStep s ticks s' → RunsTo w ticks s'
step_runs laws w s s' ticks m (StreamsStep.shows tick within) = ticks_on w s tick m within
step_runs laws w s s' ticks m (StreamsStep.at_proxy {reading = reading} {loop = loop} {loop' = loop'} {visits = visits} {visits' = visits'} {gains = gains} number clock home were does) =
    runs_visited w [] (with_entries gains (with_loop number loop' s)) (slice_set s.visits number visits')
    (proxy_runs laws.sheets w s number reading loop loop' visits visits' gains m clock home does)
step_runs laws w s s' ticks m (StreamsStep.connects {loop = loop} {loop' = loop'} {end = end} number link node place now home step there named within free) =
    connects w s number link node place now loop loop' end m home step there named within free
step_runs laws w s s' ticks m (StreamsStep.at_link {c = c} {c' = c'} {loop = loop} {loop' = loop'} number there here home crosses) =
    link_runs laws.replies w s number c c' loop loop' m there here home crosses
step_runs laws w s s' ticks m (StreamsStep.at_node {c = c} {c' = c'} {end = end} {loop' = loop'} {gains = gains} number place there is_open home does) =
    node_runs laws.requests w s number place c c' end loop' gains m there is_open home does
step_runs laws w s s' ticks m (StreamsStep.adds_place {end = end} number home) = gains_place w s number end m home
step_runs laws w s s' ticks m (StreamsStep.restarts {end = end} number home) = restarts_node w s number end m home

pub run_runs : StreamLaws → (w : WorldView) (s : StreamsView) (ticks : List Tick) (s' : StreamsView) → MirrorsStreams w s → StreamsRun s ticks s' → RunsTo w ticks s'
run_runs laws w s ticks s' m StreamsRun.begins = record { world = w; happened = []; run = refl; ticks_are = refl; mirrors = m }
run_runs laws w s ticks s' m (StreamsRun.goes_on {ticks = before} {more = more} {between = between} run step) =
    let first = run_runs laws w s before between m run in
    runs_behind w before more between s' first (step_runs laws first.world between s' more first.mirrors step)

-- from a fresh start on
pub refined : StreamLaws → (setup : SetupView) (first last : StreamsView) (start : WorldView) (ticks : List Tick)
    → All (λ (proxy : ProxySetup). IsPlan proxy.routing proxy.schedule) setup.proxies → All HasText setup.held
    → Starts setup first → Begins setup start → StreamsRun first ticks last → ReachesWorld start ticks last
refined laws setup first last start ticks plans texts starts begins run =
    let is = run_runs laws start first ticks last (starts_mirrored setup first start plans texts starts begins) run in
    record {
      world = is.world;
      happened = is.happened;
      run = is.run;
      same_ticks = is.ticks_are;
      readings = is.mirrors.mirrors.readings_are;
      cores = is.mirrors.mirrors.cores_are;
      nodes = is.mirrors.mirrors.nodes_are;
      history = is.mirrors.mirrors.tells;
    }
