-- What a node does for gets that travelled together: it looks each key up, at one reading, and its reply can be dealt out to them.
use Rattle.std.proofs.Common.{◌≡◌, ◌≢◌, ℕ, ◌+◌, inl, inr, Bool, true, false, cond, List, [], ◌∷◌, ◌++◌, map, Option, Some, None, refl, sym, ap, ◌∙◌, subst, append_assoc}
use Rattle.std.specs.List.{find, AllByRecursion}
use Rattle.std.specs.Option.{option_map, option_to_list}
use Rattle.std.specs.Str.{bytes_eq}
use Rattle.std.proofs.lemmas.Bool.{cases_Bool}
use Rattle.std.proofs.lemmas.List.{append-nil}
use Rattle.std.proofs.lemmas.Slice.Eq.{bytes_eq-Decides}
use Rattle.mr_text.specs.declared.item.Item.{Item}
use Rattle.mr_join.specs.declared.leg_reply.LegReply.{LegReply}
use Rattle.mr_join.specs.declared.leg_reply.LegReply.TheVariants.{Miss}
use Rattle.mr_node.specs.Command.{key_of_command}
use Rattle.mr_node.specs.Items.{NamedItem, is_named, named_item_of, without}
use Rattle.mr_node.specs.Outcome.{Gets, LooksUp}
use Rattle.mr_node.specs.Recency.{CacheView, RecencyStep, live_item, unless_expired, hit_or_miss, items_after}
use Rattle.mr_node.specs.declared.command.NodeCommand.{NodeCommand}
use Rattle.mr_node.specs.declared.command.NodeCommand.TheVariants.{Get, Set, Delete}
use Rattle.mr_node.proofs.ItemLemmas.{item_of-without, item_of-without_other, named_once}
use Rattle.mr_proxy.specs.NodeReplies.{dealt, hit}
use Rattle.mr_proxy.specs.NodeRequests.{key_of}
use Rattle.mr_proxy.specs.declared.sheet.LegSheet.{LegSheet}
use Rattle.mr_loop.specs.Links.{is_get}

-- what a test finds passes it
find_passes : (test : NamedItem → Bool) (items : List NamedItem) (named : NamedItem) → find test items ≡ Some named → test named ≡ true
find_passes test [] named e = cc
find_passes test (x ∷ items) named e =
    elim (test x) as (λ b. test x ≡ b → cond b (Some x) (find test items) ≡ Some named → test named ≡ true) [
      | true ↦ λ is found. (let same : x ≡ named = cc in ap test (sym same) ∙ is)
      | false ↦ λ is found. find_passes test items named found
    ] refl e

alive_if : (b : Bool) (x named : NamedItem) → cond b (Some x) None ≡ Some named → x ≡ named
alive_if true x named e = cc
alive_if false x named e = cc

alive_found : (now : ℕ) (o : Option NamedItem) (named : NamedItem) → unless_expired now o ≡ Some named → o ≡ Some named
alive_found now None named e = cc
alive_found now (Some x) named e = ap (λ y. Some y) (alive_if _ x named e)

-- what is found stands under its key
live_named : (now : ℕ) (key : List ℕ) (items : List NamedItem) (named : NamedItem) → live_item now key items ≡ Some named → is_named key named ≡ true
live_named now key items named e = find_passes (is_named key) items named (alive_found now (named_item_of key items) named e)

-- a key that isn't there
abbrev IsAbsent : ℕ → List ℕ → CacheView → Type 0
IsAbsent now key cache = live_item now key cache.items ≡ None

absent_other : (now : ℕ) (key other : List ℕ) (items : List NamedItem) (o : Option NamedItem) → key ≢ other → live_item now other items ≡ o
    → live_item now key items ≡ None → live_item now key (option_to_list o ++ without other items) ≡ None
absent_other now key other items None apart is e = ap (unless_expired now) (item_of-without_other key other items apart) ∙ e
absent_other now key other items (Some named) apart is e =
    ap (λ b. unless_expired now (cond b (Some named) (named_item_of key (without other items)))) (named_once key other named apart (live_named now other items named is))
    ∙ ap (unless_expired now) (item_of-without_other key other items apart) ∙ e

absent_own : (now : ℕ) (key : List ℕ) (items : List NamedItem) → live_item now key items ≡ None
    → live_item now key (option_to_list (live_item now key items) ++ without key items) ≡ None
absent_own now key items e =
    ap (λ o. live_item now key (option_to_list o ++ without key items)) e ∙ ap (unless_expired now) (item_of-without key items)

-- a key that isn't there isn't there behind a get either
stays_absent : (now : ℕ) (key other : List ℕ) (old new : CacheView) (said : LegReply) → RecencyStep old now (Get other) said new → IsAbsent now key old → IsAbsent now key new
stays_absent now key other old new said step e =
    let left : live_item now key new.items ≡ live_item now key (items_after old.capacity now (Get other) old.items) = ap (λ (c : CacheView). live_item now key c.items) step.leaves in
    elim (cases_Bool (bytes_eq key other)) [
      | inl same ↦ (
          let own : key ≡ other = (bytes_eq-Decides key other).0 same in
          left ∙ ap (λ k. live_item now key (items_after old.capacity now (Get k) old.items)) (sym own) ∙ absent_own now key old.items e)
      | inr apart ↦ left ∙ absent_other now key other old.items (live_item now other old.items)
          (λ own. (let is : bytes_eq key other ≡ true = (bytes_eq-Decides key other).1 own in let no : true ≡ false = sym is ∙ apart in cc)) refl e
    ]

missed : (o : Option NamedItem) → Miss ≡ hit_or_miss o → o ≡ None
missed None e = refl
missed (Some named) e = cc

-- gets of keys, from the first on
abbrev pub GetsAll : ℕ → CacheView → List (List ℕ) → List Item → CacheView → Type 0
GetsAll now old [] items new = (items ≡ []) × (new ≡ old)
GetsAll now old (key ∷ keys) items new =
    (found : Option Item) × (middle : CacheView) × (rest : List Item) × LooksUp RecencyStep old now key found middle × (items ≡ option_to_list found ++ rest)
    × GetsAll now middle keys rest new

gets_behind : (now : ℕ) (old between new : CacheView) (keys : List (List ℕ)) (items : List Item) (key : List ℕ) (found : Option Item) → GetsAll now old keys items between
    → LooksUp RecencyStep between now key found new → GetsAll now old (keys ++ key ∷ []) (items ++ option_to_list found) new
gets_behind now old between new [] items key found all one =
    (found, new, [], subst (λ c. LooksUp RecencyStep c now key found new) all.1 one, ap (λ x. x ++ option_to_list found) all.0 ∙ sym (append-nil (option_to_list found)), (refl, refl))
gets_behind now old between new (first ∷ keys) items key found all one = (
  all.0,
  all.1,
  all.2 ++ option_to_list found,
  all.3,
  ap (λ x. x ++ option_to_list found) all.4 ∙ append_assoc (option_to_list all.0) all.2 (option_to_list found),
  gets_behind now all.1 between new keys all.2 key found all.5 one,
)

pub gets_all : (now : ℕ) (old new : CacheView) (keys : List (List ℕ)) (items : List Item) → Gets RecencyStep now old keys items new → GetsAll now old keys items new
gets_all now old new keys items Gets.begins = (refl, refl)
gets_all now old new keys items (Gets.looks {between = between} {keys = before} {items = others} key found gets looks) =
    gets_behind now old between new before others key found (gets_all now old between before others gets) looks

-- no item is found under a key that isn't there
absent_found : (now : ℕ) (key other : List ℕ) (old middle : CacheView) (found : Option Item) (rest : List Item) → IsAbsent now key old
    → LooksUp RecencyStep old now other found middle → AllByRecursion (λ (item : Item). bytes_eq item.key key ≡ false) rest
    → IsAbsent now key middle × AllByRecursion (λ (item : Item). bytes_eq item.key key ≡ false) (option_to_list found ++ rest)
absent_found now key other old middle None rest gone looks others = (stays_absent now key other old middle Miss looks gone, others)
absent_found now key other old middle (Some item) rest gone looks others =
    let step = looks.0 in (
      stays_absent now key other old middle (hit item) step gone,
      (
        elim (cases_Bool (bytes_eq item.key key)) [
          | inl same ↦ (
              let own : key ≡ other = sym ((bytes_eq-Decides item.key key).0 same) ∙ looks.1 in
              let none : live_item now other old.items ≡ None = ap (λ k. live_item now k old.items) (sym own) ∙ gone in
              let no : hit item ≡ Miss = step.answers ∙ ap hit_or_miss none in
              cc)
          | inr apart ↦ apart
        ],
        others,
      ),
    )

absent_all : (now : ℕ) (key : List ℕ) (keys : List (List ℕ)) (old new : CacheView) (items : List Item) → IsAbsent now key old → GetsAll now old keys items new
    → AllByRecursion (λ (item : Item). bytes_eq item.key key ≡ false) items
absent_all now key [] old new items gone all = subst (AllByRecursion (λ (item : Item). bytes_eq item.key key ≡ false)) (sym all.0) tt
absent_all now key (other ∷ keys) old new items gone all =
    let kept : IsAbsent now key all.1 = (absent_found now key other old all.1 all.0 [] gone all.3 tt).0 in
    let rest = absent_all now key keys all.1 new all.2 kept all.5 in
    subst (AllByRecursion (λ (item : Item). bytes_eq item.key key ≡ false)) (sym all.4) (absent_found now key other old all.1 all.0 all.2 gone all.3 rest).1

-- the steps of a cache for legs, from the first on
abbrev pub PerformsAll : CacheView → ℕ → List LegSheet → List LegReply → CacheView → Type 0
PerformsAll old now [] said new = (said ≡ []) × (new ≡ old)
PerformsAll old now (sheet ∷ sheets) [] new = ⊥
PerformsAll old now (sheet ∷ sheets) (one ∷ said) new = (middle : CacheView) × RecencyStep old now sheet.command one middle × PerformsAll middle now sheets said new

-- gets of the keys of legs
pub record GetsPerform (old : CacheView) (now : ℕ) (sheets : List LegSheet) (items : List Item) (new : CacheView) : Type 0 where
  pub said : List LegReply
  pub performs : PerformsAll old now sheets said new
  pub deals : dealt (map key_of sheets) items ≡ Some said

abbrev pub AllGets : List LegSheet → Type 0
AllGets sheets = AllByRecursion (λ (sheet : LegSheet). is_get sheet.command ≡ true) sheets

pub get_is : (command : NodeCommand) → is_get command ≡ true → Get (key_of_command command) ≡ command
get_is (Get key) e = refl
get_is (Set key flags exptime block) e = cc
get_is (Delete key) e = cc

abbrev said_of : Option Item → LegReply
said_of None = Miss
said_of (Some item) = hit item

step_of : (old middle : CacheView) (now : ℕ) (key : List ℕ) (found : Option Item) → LooksUp RecencyStep old now key found middle → RecencyStep old now (Get key) (said_of found) middle
step_of old middle now key None looks = looks
step_of old middle now key (Some item) looks = looks.0

missed_first : (keys : List (List ℕ)) (key : List ℕ) (items : List Item) (said : List LegReply) → AllByRecursion (λ (item : Item). bytes_eq item.key key ≡ false) items
    → dealt keys items ≡ Some said → dealt (key ∷ keys) items ≡ Some (Miss ∷ said)
missed_first keys key [] said none deals = ap (option_map (λ s. Miss ∷ s)) deals
missed_first keys key (item ∷ items) said none deals =
    ap (λ b. cond b (option_map (λ s. hit item ∷ s) (dealt keys items)) (option_map (λ s. Miss ∷ s) (dealt keys (item ∷ items)))) none.0
    ∙ ap (option_map (λ s. Miss ∷ s)) deals

deals_first : (now : ℕ) (old middle new : CacheView) (key : List ℕ) (keys : List (List ℕ)) (found : Option Item) (rest : List Item) (said : List LegReply)
    → LooksUp RecencyStep old now key found middle → GetsAll now middle keys rest new → dealt keys rest ≡ Some said
    → dealt (key ∷ keys) (option_to_list found ++ rest) ≡ Some (said_of found ∷ said)
deals_first now old middle new key keys None rest said looks all deals =
    let gone : IsAbsent now key old = missed (live_item now key old.items) looks.answers in
    missed_first keys key rest said (absent_all now key keys middle new rest (stays_absent now key key old middle Miss looks gone) all) deals
deals_first now old middle new key keys (Some item) rest said looks all deals =
    let own : bytes_eq item.key key ≡ true = (bytes_eq-Decides item.key key).1 looks.1 in
    ap (λ b. cond b (option_map (λ s. hit item ∷ s) (dealt keys rest)) (option_map (λ s. Miss ∷ s) (dealt keys (item ∷ rest)))) own
    ∙ ap (option_map (λ s. hit item ∷ s)) deals

-- the gets are what the legs ask, and what was found can be dealt out to them
pub gets_perform : (now : ℕ) (sheets : List LegSheet) (old new : CacheView) (items : List Item) → AllGets sheets → GetsAll now old (map key_of sheets) items new
    → GetsPerform old now sheets items new
gets_perform now [] old new items gets all =
    record { said = []; performs = (refl, all.1); deals = ap (dealt []) all.0 }
gets_perform now (sheet ∷ sheets) old new items gets all =
    let next = gets_perform now sheets all.1 new all.2 gets.1 all.5 in
    record {
      said = said_of all.0 ∷ next.said;
      performs = (
        all.1,
        subst (λ c. RecencyStep old now c (said_of all.0) all.1) (get_is sheet.command gets.0) (step_of old all.1 now (key_of sheet) all.0 all.3),
        next.performs,
      );
      deals = ap (dealt (map key_of (sheet ∷ sheets))) all.4 ∙ deals_first now old all.1 new (key_of sheet) (map key_of sheets) all.0 all.2 next.said all.3 all.5 next.deals;
    }
