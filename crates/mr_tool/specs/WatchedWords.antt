-- The words that name where services tell their metrics.
use Rattle.std.specs.Prelude.{◌≡◌, ⊤, ℕ, ◌⊎◌, List, [], ◌∷◌}
use Rattle.mr_sockets.specs.Address.{HasNodeAddress}
use Rattle.mr_tool.specs.Fault.{IsNetFault}
use Rattle.mr_tool.specs.declared.fault.Fault.{Fault}

-- each is an address at which a service may listen
abbrev pub AreAddresses : List (List ℕ) → Type 0
AreAddresses [] = ⊤
AreAddresses (word ∷ words) = HasNodeAddress word × AreAddresses words

-- of these words that one is the first that is no such address
abbrev pub IsFirstOther : List (List ℕ) → List ℕ → Type 0
IsFirstOther [] other = ⊥
IsFirstOther (word ∷ words) other = ((¬ HasNodeAddress word) × (other ≡ word)) ⊎ (HasNodeAddress word × IsFirstOther words other)

-- the fault names the first of these words that is no such address, unless memory is refused for its line
pub record RefusesWord (words : List (List ℕ)) (fault : Fault) : Type 0 where
  pub other : List ℕ
  pub first : IsFirstOther words other
  pub is_fault : IsNetFault other fault
