-- The addresses that names of nodes are.
use Rattle.std.specs.Prelude.{◌≡◌, ℕ, ◌<◌, ◌^◌, ◌⊎◌, ⊤, List, [], ◌∷◌, ◌++◌, Option, Some, None, codes, decimal}
use Rattle.std.specs.declared.net.ipv4_addr.Ipv4Addr.{Ipv4Addr}
use Rattle.std.specs.declared.net.socket_addr.SocketAddrV4.{SocketAddrV4}
use Rattle.std.specs.Net.Addr.{ipv4_octets}
use Rattle.std.specs.Net.Grammar.{IsIpv4Text}
use Rattle.std.specs.Net.Socket.{v4_ip, v4_port}

-- what stands between host and port: ':'
abbrev pub colon : ℕ
colon = 58

-- the host is 127.0.0.1
abbrev pub IsThisMachine : Ipv4Addr → Type 0
IsThisMachine host = ipv4_octets host ≡ 127 ∷ 0 ∷ 0 ∷ 1 ∷ []

-- A host: four decimal numbers below 256 without leading zeros and with dots between them, or `localhost`.
-- (from: the rules of a node's name in docs/FORMATS.md)
abbrev pub IsHost : List ℕ → Ipv4Addr → Type 0
IsHost text host = IsIpv4Text text host ⊎ ((text ≡ codes "localhost") × IsThisMachine host)

-- a host, one colon, and the decimal digits of a port (from: the rules of a node's name in docs/FORMATS.md)
pub record IsAddress (text : List ℕ) (address : SocketAddrV4) : Type 0 where
  pub host : List ℕ
  pub is_host : IsHost host (v4_ip address)
  pub small : v4_port address < 2 ^ 16
  pub spelled : text ≡ host ++ colon ∷ decimal (v4_port address)

-- a node listens at a port that isn't 0
pub record IsNodeAddress (name : List ℕ) (address : SocketAddrV4) : Type 0 where
  pub is_address : IsAddress name address
  pub some_port : 0 < v4_port address

-- the address that the text is, or None where it is none
abbrev pub GivesAddress : List ℕ → Option SocketAddrV4 → Type 0
GivesAddress text (Some address) = IsAddress text address
GivesAddress text None = (address : SocketAddrV4) → ¬ IsAddress text address

-- the same of a node's name
abbrev pub GivesNodeAddress : List ℕ → Option SocketAddrV4 → Type 0
GivesNodeAddress name (Some address) = IsNodeAddress name address
GivesNodeAddress name None = (address : SocketAddrV4) → ¬ IsNodeAddress name address

-- the addresses that names are, in order
abbrev pub GivesNodeAddresses : List (List ℕ) → List (Option SocketAddrV4) → Type 0
GivesNodeAddresses [] [] = ⊤
GivesNodeAddresses [] (given ∷ others) = ⊥
GivesNodeAddresses (name ∷ names) [] = ⊥
GivesNodeAddresses (name ∷ names) (given ∷ others) = GivesNodeAddress name given × GivesNodeAddresses names others

-- the name is the address of a node
abbrev pub HasNodeAddress : List ℕ → Type 0
HasNodeAddress name = (address : SocketAddrV4) × IsNodeAddress name address
