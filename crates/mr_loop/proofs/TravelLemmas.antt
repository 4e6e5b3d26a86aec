-- Legs that are put together to travel together.
use Rattle.std.proofs.Common.{◌≡◌, ℕ, suc, zero, ◌+◌, ◌==◌, ◌<◌, ◌≤◌, Bool, true, false, ◌&&◌, cond, List, [], ◌∷◌, ◌++◌, get_or, slice_set, length, take, drop, Result, Ok, Err, IfOk, refl, sym, ap, ◌∙◌, append_assoc, arith}
use Rattle.std.proofs.Math.ListN.{drop_of_length-le}
use Rattle.std.proofs.Math.Seq.{drop-cons}
use Rattle.std.proofs.lemmas.Bool.{eqb-true}
use Rattle.std.proofs.lemmas.List.{take_all, take_more}
use Rattle.std.specs.declared.alloc.AllocError.{AllocError}
use Rattle.mr_pools.specs.Routing.{RoutingView}
use Rattle.mr_proxy.specs.Sheets.{pool_at}
use Rattle.mr_proxy.specs.declared.sheet.LegSheet.{LegSheet}
use Rattle.mr_loop.specs.declared.asker.Asker.{Asker}
use Rattle.mr_loop.specs.declared.link.Link.{Link}
use Rattle.mr_loop.specs.declared.sent_legs.SentLeg.{SentLeg}
use Rattle.mr_loop.specs.Links.{all_up, is_get, is_up_at, link_of, link_to, sent_by, travelling, travels_with, with_traveller}
use Rattle.mr_loop.specs.steps.Sending.{each_up}
use Rattle.mr_loop.proofs.SentLemmas.{and_true, and_assoc}

one_dropped : (sents : List SentLeg) (i : ℕ) (d : SentLeg) → i < length sents → get_or sents i d ≡ d → drop i sents ≡ d ∷ drop (suc i) sents
one_dropped sents i d low is = drop-cons sents i d low ∙ ap (λ x. x ∷ drop (suc i) sents) is

set_split : (sents : List SentLeg) (i : ℕ) (x : SentLeg) → i < length sents → slice_set sents i x ≡ take i sents ++ x ∷ drop (suc i) sents
set_split [] i x low = absurd (omega arith)
set_split (sent ∷ sents) zero x low = refl
set_split (sent ∷ sents) (suc i) x low = ap (λ l. sent ∷ l) (set_split sents i x (omega arith))

-- one leg more behind those that travel with this one
abbrev pub behind : LegSheet → SentLeg → SentLeg
behind sheet sent = record sent { others = sent.others ++ sheet ∷ [] }

-- it may not travel with the next one either
pub passed_one : (asker : Asker) (sheet : LegSheet) (sents : List SentLeg) (place : ℕ) (sent : SentLeg) → place < length sents → get_or sents place sent ≡ sent
    → travels_with sheet sent.leg ≡ false
    → with_traveller asker sheet sents ≡ take place sents ++ with_traveller asker sheet (drop place sents)
    → with_traveller asker sheet sents ≡ take (place + 1) sents ++ with_traveller asker sheet (drop (place + 1) sents)
passed_one asker sheet sents place sent low is may_not e =
    let rest : List SentLeg = drop (suc place) sents in
    let cut : drop place sents ≡ sent ∷ rest = one_dropped sents place sent low is in
    e ∙ ap (λ l. take place sents ++ with_traveller asker sheet l) cut
    ∙ ap (λ b. take place sents ++ cond b (behind sheet sent ∷ rest) (sent ∷ with_traveller asker sheet rest)) may_not
    ∙ sym (append_assoc (take place sents) (sent ∷ []) (with_traveller asker sheet rest))
    ∙ ap (λ l. l ++ with_traveller asker sheet rest) (ap (λ x. take place sents ++ x ∷ []) (sym is) ∙ sym (take_more sents place sent low))
    ∙ ap (λ n. take (place + 1) sents ++ with_traveller asker sheet (drop n sents)) (let n : suc place ≡ place + 1 = omega arith in n)

-- it travels with this one
pub put_behind : (asker : Asker) (sheet : LegSheet) (sents : List SentLeg) (place : ℕ) (sent : SentLeg) → place < length sents → get_or sents place sent ≡ sent
    → travels_with sheet sent.leg ≡ true
    → with_traveller asker sheet sents ≡ take place sents ++ with_traveller asker sheet (drop place sents)
    → slice_set sents place (behind sheet sent) ≡ with_traveller asker sheet sents
put_behind asker sheet sents place sent low is may e =
    let rest : List SentLeg = drop (suc place) sents in
    let cut : drop place sents ≡ sent ∷ rest = one_dropped sents place sent low is in
    set_split sents place (behind sheet sent) low
    ∙ sym (e ∙ ap (λ l. take place sents ++ with_traveller asker sheet l) cut
    ∙ ap (λ b. take place sents ++ cond b (behind sheet sent ∷ rest) (sent ∷ with_traveller asker sheet rest)) may)

-- it travels with none
pub put_last : (asker : Asker) (sheet : LegSheet) (sents : List SentLeg) (place : ℕ) → length sents ≤ place
    → with_traveller asker sheet sents ≡ take place sents ++ with_traveller asker sheet (drop place sents)
    → sents ++ sent_by asker sheet ∷ [] ≡ with_traveller asker sheet sents
put_last asker sheet sents place past e =
    ap (λ l. l ++ sent_by asker sheet ∷ []) (sym (take_all place sents past))
    ∙ sym (e ∙ ap (λ l. take place sents ++ with_traveller asker sheet l) (drop_of_length-le sents past))

-- the three are true
three_true : (a b c : Bool) → (a && b && c) ≡ true → (b ≡ true) × (c ≡ true)
three_true true true true e = (refl, refl)
three_true true true false e = cc
three_true true false c e = cc
three_true false b c e = cc

kept_up : (a r : Bool) → a && r ≡ (a && r) && a
kept_up true true = refl
kept_up true false = refl
kept_up false r = refl

-- gets of one node go over one link
pub one_link : (routing : RoutingView) (sheet leg : LegSheet) → travels_with sheet leg ≡ true → link_of routing sheet ≡ link_of routing leg
one_link routing sheet leg e =
    let are = three_true (is_get sheet.command && is_get leg.command) (pool_at sheet == pool_at leg) (sheet.node == leg.node) e in
    ap (λ n. link_to routing n sheet.node) (eqb-true (pool_at sheet) (pool_at leg) are.0) ∙ ap (λ n. link_to routing (pool_at leg) n) (eqb-true sheet.node leg.node are.1)

up_with_by : (asker : Asker) (routing : RoutingView) (sheet : LegSheet) (sent : SentLeg) (sents : List SentLeg) (links : List Link) (b : Bool) → travels_with sheet sent.leg ≡ b
    → each_up routing (with_traveller asker sheet sents) links ≡ each_up routing sents links && is_up_at links (link_of routing sheet)
    → each_up routing (cond b (behind sheet sent ∷ sents) (sent ∷ with_traveller asker sheet sents)) links
    ≡ each_up routing (sent ∷ sents) links && is_up_at links (link_of routing sheet)
up_with_by asker routing sheet sent sents links true e behind_it =
    kept_up (is_up_at links (link_of routing sent.leg)) (each_up routing sents links)
    ∙ ap (λ n. each_up routing (sent ∷ sents) links && is_up_at links n) (sym (one_link routing sheet sent.leg e))
up_with_by asker routing sheet sent sents links false e behind_it =
    ap (λ b. is_up_at links (link_of routing sent.leg) && b) behind_it
    ∙ sym (and_assoc (is_up_at links (link_of routing sent.leg)) (each_up routing sents links) (is_up_at links (link_of routing sheet)))

-- one leg more has a link that is up or not
up_with : (asker : Asker) (routing : RoutingView) (sheet : LegSheet) (sents : List SentLeg) (links : List Link)
    → each_up routing (with_traveller asker sheet sents) links ≡ each_up routing sents links && is_up_at links (link_of routing sheet)
up_with asker routing sheet [] links = and_true (is_up_at links (link_of routing sheet))
up_with asker routing sheet (sent ∷ sents) links =
    up_with_by asker routing sheet sent sents links (travels_with sheet sent.leg) refl (up_with asker routing sheet sents links)

up_travelling : (asker : Asker) (routing : RoutingView) (sheets : List LegSheet) (sents : List SentLeg) (links : List Link)
    → each_up routing (travelling asker sents sheets) links ≡ each_up routing sents links && all_up routing sheets links
up_travelling asker routing [] sents links = sym (and_true (each_up routing sents links))
up_travelling asker routing (sheet ∷ sheets) sents links =
    up_travelling asker routing sheets (with_traveller asker sheet sents) links
    ∙ ap (λ b. b && all_up routing sheets links) (up_with asker routing sheet sents links)
    ∙ and_assoc (each_up routing sents links) (is_up_at links (link_of routing sheet)) (all_up routing sheets links)

-- all links are up over which the legs travel, or not
pub up_together : (asker : Asker) (routing : RoutingView) (sheets : List LegSheet) (links : List Link)
    → each_up routing (travelling asker [] sheets) links ≡ all_up routing sheets links
up_together asker routing sheets links = up_travelling asker routing sheets [] links

pub if_up : (asker : Asker) (routing : RoutingView) (sheets : List LegSheet) (links : List Link) (sents : List SentLeg) (result : Result Bool AllocError)
    → sents ≡ travelling asker [] sheets → IfOk result (λ all. all ≡ each_up routing sents links) → IfOk result (λ all. all ≡ all_up routing sheets links)
if_up asker routing sheets links sents (Ok all) are up = up ∙ ap (λ s. each_up routing s links) are ∙ up_together asker routing sheets links
if_up asker routing sheets links sents (Err e) are up = up
