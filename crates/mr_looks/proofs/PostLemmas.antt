-- What a walk over services makes of them.
use Rattle.std.proofs.Common.{arith, ◌≡◌, ◌<◌, ◌≤◌, ◌+◌, ◌∙◌, ◌++◌, ℕ, zero, suc, List, [], ◌∷◌, Bool, true, false, not, get_or, length, map, take, refl, ap, subst, sym}
use Rattle.std.proofs.lemmas.List.{take-append-le, take_all}
use Rattle.std.proofs.lemmas.Slice.Zip.{AllZip-map}
use Rattle.std.proofs.Math.ListN.{set}
use Rattle.std.proofs.Math.Seq.{map-set_same}
use Rattle.std.specs.List.{AllZip}
use Rattle.mr_looks.specs.Posts.{IsAskedAsOther, IsAskedAsProxy, IsAskedIf, address_of, addresses_of, begun, is_proxy}
use Rattle.mr_looks.specs.declared.posts.Post.{Post}

-- so many of the services were walked over, and the rest are as they were
abbrev pub Walked : (Post → Post → Type 0) → ℕ → List Post → List Post → Type 0
Walked R zero olds news = news ≡ olds
Walked R (suc i) [] news = ⊥
Walked R (suc i) (old ∷ olds) [] = ⊥
Walked R (suc i) (old ∷ olds) (new ∷ news) = R old new × Walked R i olds news

module _ (R : Post → Post → Type 0) where
  -- the first one
  walked_first : (old : Post) (olds news : List Post) (post d : Post) → news ≡ old ∷ olds → R (get_or news 0 d) post → Walked R 1 (old ∷ olds) (set news 0 post)
  walked_first old olds [] post d same holds = absurd (let none : length (old ∷ olds) ≡ 0 = ap (λ (l : List Post). length l) (sym same) in omega arith)
  walked_first old olds (new ∷ news) post d same holds =
      (subst (λ (p : Post). R p post) (ap (λ (l : List Post). get_or l 0 d) same) holds, ap (λ (l : List Post). drop_first l) same)
    where
      drop_first : List Post → List Post
      drop_first [] = []
      drop_first (x ∷ xs) = xs

  -- one more
  walked_next : (olds news : List Post) (i : ℕ) (post d : Post) → i < length olds → Walked R i olds news → R (get_or news i d) post
      → Walked R (suc i) olds (set news i post)
  walked_next [] news i post d within walked holds = absurd (omega arith)
  walked_next (old ∷ olds) news zero post d within walked holds = walked_first old olds news post d walked holds
  walked_next (old ∷ olds) [] (suc i) post d within walked holds = absurd walked
  walked_next (old ∷ olds) (new ∷ news) (suc i) post d within walked holds = (walked.0, walked_next olds news i post d (omega arith) walked.1 holds)

  pub walked_one : (olds news : List Post) (i : ℕ) (post d : Post) → i < length olds → Walked R i olds news → R (get_or news i d) post
      → Walked R (i + 1) olds (set news i post)
  walked_one olds news i post d within walked holds =
      let same : suc i ≡ i + 1 = omega arith in
      subst (λ (n : ℕ). Walked R n olds (set news i post)) same (walked_next olds news i post d within walked holds)

  -- all of them
  pub walked_all : (olds news : List Post) (i : ℕ) → length olds ≤ i → Walked R i olds news → AllZip R olds news
  walked_all [] news zero all walked = subst (AllZip R []) (sym walked) tt
  walked_all [] news (suc i) all walked = absurd walked
  walked_all (old ∷ olds) news zero all walked = absurd (omega arith)
  walked_all (old ∷ olds) [] (suc i) all walked = absurd walked
  walked_all (old ∷ olds) (new ∷ news) (suc i) all walked = (walked.0, walked_all olds news i (omega arith) walked.1)

  -- there are as many as there were
  pub walked_long : (olds news : List Post) (i : ℕ) → Walked R i olds news → length news ≡ length olds
  walked_long olds news zero walked = ap (λ (l : List Post). length l) walked
  walked_long [] news (suc i) walked = absurd walked
  walked_long (old ∷ olds) [] (suc i) walked = absurd walked
  walked_long (old ∷ olds) (new ∷ news) (suc i) walked = ap suc (walked_long olds news i walked.1)

  -- each tells where it told
  pub walked_addresses : ((old new : Post) → R old new → address_of new ≡ address_of old) → (olds news : List Post) (i : ℕ) → Walked R i olds news
      → addresses_of news ≡ addresses_of olds
  walked_addresses keeps olds news zero walked = ap addresses_of walked
  walked_addresses keeps [] news (suc i) walked = absurd walked
  walked_addresses keeps (old ∷ olds) [] (suc i) walked = absurd walked
  walked_addresses keeps (old ∷ olds) (new ∷ news) (suc i) walked =
      ap (λ (a : List ℕ). a ∷ addresses_of news) (keeps old new walked.0) ∙ ap (λ (l : List (List ℕ)). address_of old ∷ l) (walked_addresses keeps olds news i walked.1)

-- one takes a place that tells at the same address
pub addresses_kept : (before now : List Post) (i : ℕ) (post d : Post) → post ≡ get_or now i d → addresses_of now ≡ addresses_of before
    → addresses_of (set now i post) ≡ addresses_of before
addresses_kept before now i post d same kept = map-set_same address_of now i post d (ap address_of same) ∙ kept

-- a service tells where it told, whether it was asked or not
asked_keeps : (asks : Bool) (old new : Post) → IsAskedIf asks old new → address_of new ≡ address_of old
asked_keeps true old new asked = ap (λ address. address.now) asked.address
asked_keeps false old new same = ap address_of same

pub other_keeps : (old new : Post) → IsAskedAsOther old new → address_of new ≡ address_of old
other_keeps old new asked = asked_keeps (not (is_proxy old.kind)) old new asked

pub proxy_keeps : (old new : Post) → IsAskedAsProxy old new → address_of new ≡ address_of old
proxy_keeps old new asked = asked_keeps (is_proxy old.kind) old new asked

-- it is as it begins a look
abbrev pub IsBegun : Post → Post → Type 0
IsBegun old new = new ≡ begun old

-- all of them are
pub all_begun : (olds news : List Post) (i : ℕ) → length olds ≤ i → Walked IsBegun i olds news → news ≡ map begun olds
all_begun olds news i all walked = AllZip-map begun olds news (walked_all IsBegun olds news i all walked)

pub begun_addresses : (posts : List Post) → addresses_of (map begun posts) ≡ addresses_of posts
begun_addresses [] = refl
begun_addresses (post ∷ posts) = ap (λ (l : List (List ℕ)). address_of post ∷ l) (begun_addresses posts)

-- as many as there are, of what begins with them
pub all_of : {X : Type 0} (n : ℕ) (xs ys : List X) → length xs ≡ n → take n (xs ++ ys) ≡ xs
all_of n xs ys same =
    let least : n ≤ length xs = omega arith in
    let most : length xs ≤ n = omega arith in
    take-append-le n xs ys least ∙ take_all n xs most
