-- The addresses of many names.
use Rattle.std.proofs.Common.{◌≡◌, ℕ, ◌+◌, ◌<◌, List, [], ◌∷◌, ◌++◌, length, get_or, take, sym, ap, subst, ◌∙◌}
use Rattle.std.specs.Prelude.{Option}
use Rattle.std.specs.List.{flat_map}
use Rattle.std.proofs.lemmas.List.{take_more, append-nil}
use Rattle.std.proofs.lemmas.List.Concat.{flat_map-append}
use Rattle.std.specs.declared.net.socket_addr.SocketAddrV4.{SocketAddrV4}
use Rattle.mr_sockets.specs.Address.{GivesNodeAddress, GivesNodeAddresses}

-- the addresses of some names, and behind them those of others
pub both_given : (names others : List (List ℕ)) (given more : List (Option SocketAddrV4)) → GivesNodeAddresses names given
    → GivesNodeAddresses others more → GivesNodeAddresses (names ++ others) (given ++ more)
both_given [] others [] more have have' = have'
both_given [] others (address ∷ given) more have have' = absurd have
both_given (name ∷ names) others [] more have have' = absurd have
both_given (name ∷ names) others (address ∷ given) more have have' = (have.0, both_given names others given more have.1 have')

-- one more address, of the next name
pub one_more_given : (names items : List (List ℕ)) (i : ℕ) (name : List ℕ) (old new : List (Option SocketAddrV4)) (address : Option SocketAddrV4)
    → GivesNodeAddresses (take i names) old → GivesNodeAddress name address → new ≡ old ++ address ∷ [] → name ≡ get_or items i name
    → items ≡ names → i < length items → GivesNodeAddresses (take (i + 1) names) new
one_more_given names items i name old new address have gives added is same below =
    let here : get_or names i name ≡ name = sym (is ∙ ap (λ l. get_or l i name) same) in
    let longer : take i names ++ name ∷ [] ≡ take (i + 1) names =
    (λ k. take i names ++ sym here k ∷ []) ∙ sym (take_more names i name (subst (λ l. i < length l) same below)) in
    let P : List (List ℕ) → Type 0 = λ l. GivesNodeAddresses l new in
    let Q : List (Option SocketAddrV4) → Type 0 = λ l. GivesNodeAddresses (take i names ++ name ∷ []) l in
    subst P longer (subst Q (sym added) (both_given (take i names) (name ∷ []) old (address ∷ []) have (gives, tt)))

-- those of one more pool
pub one_more_pool : (pools : List (List (List ℕ))) (i : ℕ) (pool : List (List ℕ)) (old new more : List (Option SocketAddrV4))
    → GivesNodeAddresses (flat_map (λ names. names) (take i pools)) old → GivesNodeAddresses pool more → new ≡ old ++ more
    → pool ≡ get_or pools i pool → i < length pools → GivesNodeAddresses (flat_map (λ names. names) (take (i + 1) pools)) new
one_more_pool pools i pool old new more have gives added is below =
    let all : List (List (List ℕ)) → List (List ℕ) = flat_map (λ names. names) in
    let last : all (pool ∷ []) ≡ pool = append-nil pool in
    let longer : all (take i pools) ++ pool ≡ all (take (i + 1) pools) =
    (λ k. all (take i pools) ++ sym last k) ∙ sym (flat_map-append (λ names. names) (take i pools) (pool ∷ []))
    ∙ (λ k. all (take i pools ++ is k ∷ [])) ∙ ap all (sym (take_more pools i pool below)) in
    let P : List (List ℕ) → Type 0 = λ l. GivesNodeAddresses l new in
    let Q : List (Option SocketAddrV4) → Type 0 = λ l. GivesNodeAddresses (all (take i pools) ++ pool) l in
    subst P longer (subst Q (sym added) (both_given (all (take i pools)) pool old more have gives))
