-- Where and when the requests of a canary were issued.
use Rattle.std.specs.Prelude.{◌≡◌, ℕ, ◌/◌, ◌%◌, nat_eq, List, [], length, map, slice_index_or, if◌then◌else◌}
use Rattle.mr_counting.specs.Counting.{sum_of}
use Rattle.mr_phases.specs.Schedule.{Hop, hop_of, phase_of}
use Rattle.mr_flights.specs.declared.scene.Scene.{Scene}
use Rattle.mr_sightings.specs.declared.came_back.Deed.{Deed}

-- the proxies that a canary asks, the schedule of its configuration, and when its clock began, in microseconds since the epoch
pub record SceneView : Type 0 where
  pub proxies : List (List ℕ)
  pub hops : List Hop
  pub begun : ℕ

-- the addresses of its proxies
abbrev pub proxies_of : Scene → List (List ℕ)
proxies_of scene = map (λ proxy. proxy.now) scene.proxies.now

-- all of them
abbrev pub scene_of : Scene → SceneView
scene_of scene = record { proxies = proxies_of scene; hops = scene.schedule; begun = scene.begun }

-- the proxy that a client is at: they are at them in turn
abbrev pub proxy_of : List (List ℕ) → ℕ → List ℕ
proxy_of proxies client = if nat_eq (length proxies) 0 then [] else slice_index_or proxies (client % length proxies) []

-- the moment, in microseconds since the epoch, of a time of its clock
abbrev pub moment_of : SceneView → ℕ → ℕ
moment_of scene time = sum_of scene.begun time

-- what is told of a request that a client issued, at a time of its clock: the proxy, the moment, and the migration and the phase then
pub record IsDeed (scene : SceneView) (client time : ℕ) (deed : Deed) : Type 0 where
  pub proxy : deed.proxy.now ≡ proxy_of scene.proxies client
  pub second : deed.second ≡ moment_of scene time / 1000000
  pub micros : deed.micros ≡ moment_of scene time % 1000000
  pub hop : deed.hop ≡ hop_of scene.hops deed.second
  pub phase : deed.phase ≡ phase_of scene.hops deed.second
