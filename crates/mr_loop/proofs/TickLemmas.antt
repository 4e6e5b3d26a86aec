-- Links that tick, one by one.
use Rattle.std.proofs.Common.{◌≡◌, ℕ, suc, zero, ◌+◌, ◌<◌, List, [], ◌∷◌, ◌++◌, length, take, drop, map, get_or, slice_set, refl, sym, ap, ◌∙◌, arith}
use Rattle.std.proofs.lemmas.Grind.{flat_map-append}
use Rattle.std.proofs.lemmas.List.{append-nil, take_more}
use Rattle.mr_loop.specs.declared.link.Link.{Link}
use Rattle.mr_loop.specs.Events.{FrontView, after_all}
use Rattle.mr_loop.specs.Ticking.{ticked, ticks, given_up_at}
use Rattle.mr_loop.proofs.TakenLemmas.{after_both}

-- the links of which so many have ticked
abbrev pub part_of : (Link → Link) → ℕ → List Link → List Link
part_of f n links = map f (take n links) ++ drop n links

part_step : (f : Link → Link) (links : List Link) (n : ℕ) (d : Link) → n < length links
    → slice_set (part_of f n links) n (f (get_or links n d)) ≡ part_of f (suc n) links
part_step f [] n d within = absurd (omega arith)
part_step f (link ∷ links) zero d within = refl
part_step f (link ∷ links) (suc n) d within = ap (λ l. f link ∷ l) (part_step f links n d (omega arith))

part_get : (f : Link → Link) (links : List Link) (n : ℕ) (d : Link) → get_or (part_of f n links) n d ≡ get_or links n d
part_get f [] zero d = refl
part_get f [] (suc n) d = refl
part_get f (link ∷ links) zero d = refl
part_get f (link ∷ links) (suc n) d = part_get f links n d

-- one more has ticked
pub part_more : (f : Link → Link) (links now : List Link) (n : ℕ) (old new d : Link) → n < length links → now ≡ part_of f n links
    → old ≡ get_or now n d → new ≡ f old → slice_set now n new ≡ part_of f (n + 1) links
part_more f links now n old new d within is read e =
    let was : old ≡ get_or links n d = read ∙ ap (λ l. get_or l n d) is ∙ part_get f links n d in
    ap (λ l. slice_set l n new) is
    ∙ ap (λ x. slice_set (part_of f n links) n x) (e ∙ ap f was)
    ∙ part_step f links n d within
    ∙ ap (λ k. part_of f k links) (let s : suc n ≡ n + 1 = omega arith in s)

-- and what was given up by it is given up behind the others
pub ticks_more : (bound now n : ℕ) (links at : List Link) (old d : Link) (first before after : FrontView) → n < length links
    → at ≡ part_of (ticked bound now) n links → old ≡ get_or at n d
    → before ≡ after_all (ticks bound now (take n links)) first → after ≡ after_all (given_up_at bound now old) before
    → after ≡ after_all (ticks bound now (take (n + 1) links)) first
ticks_more bound now n links at old d first before after within is read was e =
    let same : old ≡ get_or links n d = read ∙ ap (λ l. get_or l n d) is ∙ part_get (ticked bound now) links n d in
    let more : take (n + 1) links ≡ take n links ++ get_or links n d ∷ [] = take_more links n d within in
    let events : ticks bound now (take (n + 1) links) ≡ ticks bound now (take n links) ++ given_up_at bound now (get_or links n d) =
    ap (λ l. ticks bound now l) more
    ∙ flat_map-append (given_up_at bound now) (take n links) (get_or links n d ∷ [])
    ∙ ap (λ l. ticks bound now (take n links) ++ l) (append-nil (given_up_at bound now (get_or links n d))) in
    e ∙ ap (λ f. after_all (given_up_at bound now old) f) was
    ∙ ap (λ x. after_all (given_up_at bound now x) (after_all (ticks bound now (take n links)) first)) same
    ∙ sym (after_both (ticks bound now (take n links)) (given_up_at bound now (get_or links n d)) first)
    ∙ ap (λ l. after_all l first) (sym events)
