-- What the services on loops stand for that only contracts see.
use Rattle.std.specs.Prelude.{List, [], ◌∷◌, ◌++◌}
use Rattle.mr_servers.specs.Drives.{Drive, ProxyDrive, NodeDrive}
use Rattle.mr_servers.specs.declared.drives.Drives.{Drives, Nothing, Proxy', Node'}

-- the services on loops, in the order in which they ran
abbrev pub drives_of : Drives → List Drive
drives_of Nothing = []
drives_of (Proxy' marker before loops bounds) = drives_of before ++ ProxyDrive loops.value.items bounds.value ∷ []
drives_of (Node' marker before node loops bounds) = drives_of before ++ NodeDrive node.value loops.value bounds.value ∷ []
