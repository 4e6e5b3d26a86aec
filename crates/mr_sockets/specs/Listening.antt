-- What a socket that listens is asked for.
use Rattle.std.specs.Prelude.{◌≡◌, ℕ, ◌⊎◌, List, [], ◌∷◌, ◌++◌, Option, Some, None}
use Rattle.std.specs.declared.net.socket_addr.SocketAddrV4.{SocketAddrV4}
use Rattle.mr_sockets.specs.Address.{IsAddress}

-- one socket was asked for, at the address that the text is
pub record Listens (text : List ℕ) (old new : List SocketAddrV4) : Type 0 where
  pub address : SocketAddrV4
  pub is_address : IsAddress text address
  pub once : new ≡ old ++ address ∷ []

-- the text is no address, and no socket was asked for
pub record ListensNowhere (text : List ℕ) (old new : List SocketAddrV4) : Type 0 where
  pub no_address : (address : SocketAddrV4) → ¬ IsAddress text address
  pub none : new ≡ old

-- a socket that listens was asked for, and was had or not
abbrev pub Opens : {L : Type 0} → List ℕ → List SocketAddrV4 → Option L → List SocketAddrV4 → Type 0
Opens text old (Some listener) new = Listens text old new
Opens text old None new = Listens text old new ⊎ ListensNowhere text old new
