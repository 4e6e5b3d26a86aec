-- What the services stand for that only contracts see.
use Rattle.std.specs.Prelude.{List, [], ◌∷◌, ◌++◌, option_map}
use Rattle.mr_sockets.specs.Serving.{Run, NodeServing, ProxyServing, run}
use Rattle.mr_sockets.specs.declared.runs.Runs.{Runs, Nothing, Node', Proxy'}

-- the services, in the order in which they ran
abbrev pub runs_of : Runs → List Run
runs_of Nothing = []
runs_of (Node' marker before began turns clients) =
    runs_of before ++ run (NodeServing (option_map (λ s. s.value.value) began) turns.value) clients.value ∷ []
runs_of (Proxy' marker before began routing turns clients) =
    runs_of before ++ run (ProxyServing (option_map (λ s. s.value.value) began) routing.value turns.value) clients.value ∷ []
