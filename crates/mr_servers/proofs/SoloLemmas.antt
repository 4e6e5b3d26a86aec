-- The addresses that texts are.
use Rattle.std.proofs.Common.{◌≡◌, ℕ, ◌+◌, ◌<◌, [], ◌∷◌, ◌++◌, List, length, get_or, take, map, sym, subst}
use Rattle.std.specs.Prelude.{Option}
use Rattle.std.proofs.lemmas.List.{map_more}
use Rattle.std.specs.declared.net.socket_addr.SocketAddrV4.{SocketAddrV4}
use Rattle.mr_sockets.specs.Address.{GivesNodeAddress, GivesNodeAddresses}

-- the addresses of some texts, and behind them that of one more
with_one_more : (texts : List (List ℕ)) (given : List (Option SocketAddrV4)) (text : List ℕ) (address : Option SocketAddrV4)
    → GivesNodeAddresses texts given → GivesNodeAddress text address → GivesNodeAddresses (texts ++ text ∷ []) (given ++ address ∷ [])
with_one_more [] [] text address have gives = (gives, tt)
with_one_more [] (other ∷ given) text address have gives = absurd have
with_one_more (other ∷ texts) [] text address have gives = absurd have
with_one_more (other ∷ texts) (its ∷ given) text address have gives = (have.0, with_one_more texts given text address have.1 gives)

-- one more address, of the next text
pub one_more_given : {X : Type 0} (text_of : X → List ℕ) (texts : List X) (i : ℕ) (d : X) (old new : List (Option SocketAddrV4))
    (address : Option SocketAddrV4) → GivesNodeAddresses (map text_of (take i texts)) old → GivesNodeAddress (text_of (get_or texts i d)) address
    → new ≡ old ++ address ∷ [] → i < length texts → GivesNodeAddresses (map text_of (take (i + 1) texts)) new
one_more_given text_of texts i d old new address have gives added below =
    let P : List (List ℕ) → Type 0 = λ l. GivesNodeAddresses l new in
    let Q : List (Option SocketAddrV4) → Type 0 = λ l. GivesNodeAddresses (map text_of (take i texts) ++ text_of (get_or texts i d) ∷ []) l in
    subst P (sym (map_more text_of texts i d below))
    (subst Q (sym added) (with_one_more (map text_of (take i texts)) old (text_of (get_or texts i d)) address have gives))
