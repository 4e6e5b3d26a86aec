-- Why a text is an address, or none.
use Rattle.std.proofs.Common.{◌≡◌, ◌≢◌, ℕ, zero, suc, ◌<◌, ◌^◌, List, [], ◌∷◌, ◌++◌, length, get_or, drop, codes, decimal, All, refl, sym, ap, subst, ◌∙◌, arith, inl, inr}
use Rattle.std.specs.Prelude.{Some, None}
use Rattle.std.specs.declared.net.ipv4_addr.Ipv4Addr.{Ipv4Addr}
use Rattle.std.specs.declared.net.socket_addr.SocketAddrV4.{SocketAddrV4}
use Rattle.std.specs.Net.Grammar.{IsDotted}
use Rattle.std.specs.Net.Socket.{v4_ip, v4_port}
use Rattle.std.proofs.lemmas.Fmt.{decimal_injective}
use Rattle.std.proofs.lemmas.Str.Pattern.{IsSplitOnceResult, split_after}
use Rattle.std.proofs.NetLemmas.Alphabet.{IsDigitOrDot, All-ipv4_text}
use Rattle.std.proofs.NetLemmas.Theorems.{IsIpv4Text_unique}
use denote.Ref.{Bor}
use Rattle.mr_sockets.specs.Address.{IsHost, IsAddress, IsNodeAddress}

-- no byte is a colon
abbrev HasNoColon : List ℕ → Type 0
HasNoColon text = (i : ℕ) → i < length text → get_or text i 0 ≢ 58

octets_fit : (a b c d : ℕ) → (a < 256) × (b < 256) × (c < 256) × (d < 256) → (k : ℕ) → get_or (a ∷ b ∷ c ∷ d ∷ []) k 0 < 2 ^ 8
octets_fit a b c d fit zero = fit.0
octets_fit a b c d fit (suc zero) = fit.1
octets_fit a b c d fit (suc (suc zero)) = fit.2
octets_fit a b c d fit (suc (suc (suc zero))) = fit.3
octets_fit a b c d fit (suc (suc (suc (suc k)))) = omega arith

-- a dotted text is made of digits and dots
digits_and_dots : (text octets : List ℕ) → IsDotted text octets → All IsDigitOrDot text
digits_and_dots text octets is = subst (All IsDigitOrDot) (sym is.spelled) (All-ipv4_text (is.a ∷ is.b ∷ is.c ∷ is.d ∷ []) (octets_fit is.a is.b is.c is.d is.fit))

no_colon_local : HasNoColon (codes "localhost")
no_colon_local zero l = omega arith
no_colon_local (suc zero) l = omega arith
no_colon_local (suc (suc zero)) l = omega arith
no_colon_local (suc (suc (suc zero))) l = omega arith
no_colon_local (suc (suc (suc (suc zero)))) l = omega arith
no_colon_local (suc (suc (suc (suc (suc zero))))) l = omega arith
no_colon_local (suc (suc (suc (suc (suc (suc zero)))))) l = omega arith
no_colon_local (suc (suc (suc (suc (suc (suc (suc zero))))))) l = omega arith
no_colon_local (suc (suc (suc (suc (suc (suc (suc (suc zero)))))))) l = omega arith
no_colon_local (suc (suc (suc (suc (suc (suc (suc (suc (suc k))))))))) l = omega arith

digit_or_dot : (c : ℕ) → IsDigitOrDot c → c ≢ 58
digit_or_dot c (inl digit) same = omega (arith, digit)
digit_or_dot c (inr dot) same = omega arith

no_colon : (text : List ℕ) (host : Ipv4Addr) → IsHost text host → HasNoColon text
no_colon text host (inl dotted) = λ i l. digit_or_dot (get_or text i 0) (digits_and_dots text _ dotted i 0 l)
no_colon text host (inr local) = subst HasNoColon (sym local.0) no_colon_local

-- a dotted text isn't `localhost`
not_local : (text octets : List ℕ) → IsDotted text octets → text ≢ codes "localhost"
not_local text octets dotted local =
    let first : get_or text 0 0 ≡ 108 = ap (λ t. get_or t 0 0) local in
    let some : 0 < length text = omega (arith, ap length local) in
    elim (digits_and_dots text octets dotted 0 0 some) [
      | inl digit ↦ omega (arith, digit, first)
      | inr dot ↦ omega (arith, dot, first)
    ]

one_host : (text : List ℕ) (a b : Ipv4Addr) → IsHost text a → IsHost text b → a ≡ b
one_host text a b (inl h) (inl k) = IsIpv4Text_unique text a b h k
one_host text a b (inl h) (inr k) = absurd (not_local text _ h k.0)
one_host text a b (inr h) (inl k) = absurd (not_local text _ k h.0)
one_host text a b (inr h) (inr k) = λ i. record { octets = (h.1 ∙ sym k.1) i }

-- the first colon parts a text in one way
same_parts : (xs ys us vs : List ℕ) → HasNoColon xs → HasNoColon us → xs ++ 58 ∷ ys ≡ us ++ 58 ∷ vs → (xs ≡ us) × (ys ≡ vs)
same_parts [] ys [] vs h k e = (refl, ap (drop 1) e)
same_parts [] ys (u ∷ us) vs h k e = absurd (k 0 (omega arith) (ap (λ l. get_or l 0 0) (sym e)))
same_parts (x ∷ xs) ys [] vs h k e = absurd (h 0 (omega arith) (ap (λ l. get_or l 0 0) e))
same_parts (x ∷ xs) ys (u ∷ us) vs h k e =
    let rest = same_parts xs ys us vs (λ i l. h (suc i) (omega arith)) (λ i l. k (suc i) (omega arith)) (ap (drop 1) e) in
    let first : x ≡ u = ap (λ l. get_or l 0 0) e in
    (λ i. first i ∷ rest.0 i, rest.1)

pub one_address : (text : List ℕ) (a b : SocketAddrV4) → IsAddress text a → IsAddress text b → a ≡ b
one_address text a b h k =
    let parts = same_parts h.host (decimal (v4_port a)) k.host (decimal (v4_port b)) (no_colon h.host _ h.is_host) (no_colon k.host _ k.is_host) (sym h.spelled ∙ k.spelled) in
    let host = one_host k.host (v4_ip a) (v4_ip b) (subst (λ t. IsHost t (v4_ip a)) parts.0 h.is_host) k.is_host in
    let port = decimal_injective (v4_port a) (v4_port b) (omega (arith, h.small)) (omega (arith, k.small)) parts.1 in
    λ i. record { ip = host i; port = port i }

-- a text without a colon is no address
pub no_address : (text : List ℕ) → IsSplitOnceResult 58 text None → (address : SocketAddrV4) → ¬ IsAddress text address
no_address text none address is = split_after 58 text is.host (decimal (v4_port address)) None none (omega arith) is.spelled (no_colon is.host _ is.is_host)

-- the first colon of an address stands between host and port
pub only_parts : (text : List ℕ) (x : Bor (List ℕ) × Bor (List ℕ)) → IsSplitOnceResult 58 text (Some x) → (address : SocketAddrV4) → IsAddress text address
    → IsHost x.0.now (v4_ip address) × (x.1.now ≡ decimal (v4_port address)) × (v4_port address < 2 ^ 16)
only_parts text x some address is =
    let h = split_after 58 text is.host (decimal (v4_port address)) (Some x) some (omega arith) is.spelled (no_colon is.host _ is.is_host) in
    (subst (λ t. IsHost t (v4_ip address)) (sym h.0) is.is_host, h.1, is.small)

-- a port of 0 is no node's
pub no_node : (name : List ℕ) (address : SocketAddrV4) → IsAddress name address → ¬ (0 < v4_port address) → (other : SocketAddrV4) → ¬ IsNodeAddress name other
no_node name address is none other node = none (subst (λ a. 0 < v4_port a) (one_address name other address node.is_address is) node.some_port)
