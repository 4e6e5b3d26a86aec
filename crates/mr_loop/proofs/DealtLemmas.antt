-- Items that are dealt out, leg by leg.
use Rattle.std.proofs.Common.{◌≡◌, ◌<◌, ◌+◌, ◌==◌, suc, Bool, true, false, List, [], ◌∷◌, Option, Some, None, MatchOption, is_some, cond, map, reverse, length, drop, get_or, refl, sym, ap, ◌∙◌, subst, arith}
use Rattle.std.proofs.Math.Seq.{drop-cons}
use Rattle.std.proofs.lemmas.Bool.{eqb-true}
use Rattle.std.specs.Option.{option_map}
use Rattle.std.specs.Str.{bytes_eq}
use Rattle.std.specs.Prelude.{ℕ}
use Rattle.mr_text.specs.declared.item.Item.{Item}
use Rattle.mr_text.specs.declared.reply.Reply.{Reply}
use Rattle.mr_join.specs.declared.leg_reply.LegReply.{LegReply}
use Rattle.mr_join.specs.declared.leg_reply.LegReply.TheVariants.{Miss}
use Rattle.mr_proxy.specs.NodeReplies.{AnswersGets, IsAnswer, dealt, hit}
use Rattle.mr_proxy.specs.NodeRequests.{key_of}
use Rattle.mr_proxy.specs.declared.sheet.LegSheet.{LegSheet}
use Rattle.mr_proxy.specs.steps.Dealing.{left_by}
use Rattle.mr_loop.specs.Events.{FrontView, after_event, after_all}
use Rattle.mr_loop.specs.Returning.{Answers, taking, takings}
use Rattle.mr_loop.specs.steps.Returning.{coming, said_next}

-- what is said of the first of some legs, and of the others
pub record DealtFirst (key : List ℕ) (keys : List (List ℕ)) (items : List Item) (said : List LegReply) : Type 0 where
  pub rest : List LegReply
  pub others : dealt keys (left_by key items) ≡ Some rest
  pub first : said ≡ said_next key items ∷ rest

with_first : (one : LegReply) (o : Option (List LegReply)) (said : List LegReply) → option_map (λ s. one ∷ s) o ≡ Some said
    → (rest : List LegReply) × (o ≡ Some rest) × (said ≡ one ∷ rest)
with_first one None said e = cc
with_first one (Some rest) said e = (rest, refl, cc)

by_key : (key : List ℕ) (keys : List (List ℕ)) (item : Item) (items : List Item) (said : List LegReply) (b : Bool) → bytes_eq item.key key ≡ b
    → cond b (option_map (λ s. hit item ∷ s) (dealt keys items)) (option_map (λ s. Miss ∷ s) (dealt keys (item ∷ items))) ≡ Some said
    → DealtFirst key keys (item ∷ items) said
by_key key keys item items said true same e =
    let is = with_first (hit item) (dealt keys items) said e in
    record {
      rest = is.0;
      others = ap (λ b. dealt keys (cond b items (item ∷ items))) same ∙ is.1;
      first = is.2 ∙ ap (λ b. cond b (hit item) Miss ∷ is.0) (sym same);
    }
by_key key keys item items said false same e =
    let is = with_first Miss (dealt keys (item ∷ items)) said e in
    record {
      rest = is.0;
      others = ap (λ b. dealt keys (cond b items (item ∷ items))) same ∙ is.1;
      first = is.2 ∙ ap (λ b. cond b (hit item) Miss ∷ is.0) (sym same);
    }

pub dealt_first : (key : List ℕ) (keys : List (List ℕ)) (items : List Item) (said : List LegReply) → dealt (key ∷ keys) items ≡ Some said → DealtFirst key keys items said
dealt_first key keys [] said e =
    let is = with_first Miss (dealt keys []) said e in
    record { rest = is.0; others = is.1; first = is.2 }
dealt_first key keys (item ∷ items) said e = by_key key keys item items said (bytes_eq item.key key) refl e

-- what was found is what comes
pub coming_first : (items later : List Item) (first : Option Item) → MatchOption first (items ≡ []) (λ item. items ≡ item ∷ reverse later) → items ≡ coming first later
coming_first items later None e = e
coming_first items later (Some item) e = e

-- the next of some legs, and those behind it
pub one_dropped : (sheets : List LegSheet) (i : ℕ) (d : LegSheet) → i < length sheets → get_or sheets i d ≡ d → drop i sheets ≡ d ∷ drop (i + 1) sheets
one_dropped sheets i d low is =
    drop-cons sheets i d low ∙ ap (λ x. x ∷ drop (suc i) sheets) is ∙ ap (λ n. d ∷ drop n sheets) (let e : suc i ≡ i + 1 = omega arith in e)

-- what is there
pub some_there : {X : Type 0} (o : Option X) → is_some o ≡ true → (x : X) × (o ≡ Some x)
some_there None e = absurd (let no : false ≡ true = e in cc)
some_there (Some x) e = (x, refl)

-- a reply to gets that travelled together
pub answers_many : (leg : LegSheet) (others : List LegSheet) (reply : Reply) (said : List LegReply) → (others ≡ [] → ⊥)
    → AnswersGets (map key_of (leg ∷ others)) reply said → Answers leg others reply said
answers_many leg [] reply said some answers = absurd (some refl)
answers_many leg (other ∷ others) reply said some answers = answers

-- a reply to a leg by itself
pub answers_one : (leg : LegSheet) (others : List LegSheet) (reply : Reply) (one : LegReply) → others ≡ [] → IsAnswer leg.command reply one
    → Answers leg others reply (one ∷ [])
answers_one leg others reply one none answers = subst (λ o. Answers leg o reply (one ∷ [])) (sym none) (one, answers, refl)

-- what a leg by itself takes
pub takes_one : (leg : LegSheet) (others : List LegSheet) (client : ℕ) (one : LegReply) (front front' : FrontView) → others ≡ []
    → front' ≡ after_event (taking client leg one) front → front' ≡ after_all (takings client (leg ∷ others) (one ∷ [])) front
takes_one leg others client one front front' none step = step ∙ ap (λ o. after_all (takings client (leg ∷ o) (one ∷ [])) front) (sym none)

-- no elements
pub none_there : {X : Type 0} (l : List X) (empty : Bool) → empty ≡ (length l == 0) → empty ≡ true → l ≡ []
none_there [] empty e is = refl
none_there (x ∷ l) empty e is = absurd (let no : length (x ∷ l) ≡ 0 = eqb-true (length (x ∷ l)) 0 (sym e ∙ is) in omega (arith, no))
