-- How items are dealt out to the gets of keys, and how the keys are gathered.
use Rattle.std.proofs.Common.{rules, ◌≡◌, ℕ, suc, ◌+◌, ◌-◌, ◌<◌, ◌≤◌, nat_eq, Bool, true, false, List, [], ◌∷◌, ◌++◌, length, map, flat_map, take, drop, get_or, Option, Some, None, is_some, Err, if◌then◌else◌, refl, sym, ap, ◌∙◌, subst, arith}
use Rattle.std.specs.Option.{option_map}
use Rattle.std.specs.Str.{bytes_eq}
use Rattle.std.proofs.Math.Seq.{drop-cons}
use Rattle.std.proofs.Math.ListN.{drop_of_length-le}
use Rattle.std.proofs.lemmas.List.{length-drop}
use Rattle.mr_text.specs.Canonical.{spaced}
use Rattle.mr_text.specs.Gathering.{HasGathered, Gathers}
use Rattle.mr_text.specs.Sink.{SinkView}
use Rattle.mr_text.specs.declared.error.WriteFault.{WriteFault}
use Rattle.mr_text.proofs.Gathered.{gathers_piece, gathered_piece}
use Rattle.mr_text.specs.declared.item.Item.{Item}
use Rattle.mr_join.specs.declared.leg_reply.LegReply.TheVariants.{Miss}
use Rattle.mr_proxy.specs.NodeReplies.{dealt, hit}
use Rattle.mr_proxy.specs.NodeRequests.{key_of}
use Rattle.mr_proxy.specs.declared.sheet.LegSheet.{LegSheet}
use Rattle.mr_proxy.specs.steps.Dealing.{left_by}

some_mapped : {X Y : Type 0} (f : X → Y) (o : Option X) → is_some (option_map f o) ≡ is_some o
some_mapped f None = refl
some_mapped f (Some x) = refl

some_if : (b : Bool) (key : List ℕ) (keys : List (List ℕ)) (item : Item) (items : List Item)
    → is_some (if b then option_map (λ said. hit item ∷ said) (dealt keys items) else option_map (λ said. Miss ∷ said) (dealt keys (item ∷ items)))
    ≡ is_some (dealt keys (if b then items else item ∷ items))
some_if true key keys item items = some_mapped (λ said. hit item ∷ said) (dealt keys items)
some_if false key keys item items = some_mapped (λ said. Miss ∷ said) (dealt keys (item ∷ items))

-- items can be dealt out where those that are left can be to the others
pub some_left : (key : List ℕ) (keys : List (List ℕ)) (items : List Item) → is_some (dealt (key ∷ keys) items) ≡ is_some (dealt keys (left_by key items))
some_left key keys [] = some_mapped (λ said. Miss ∷ said) (dealt keys [])
some_left key keys (item ∷ items) = some_if (bytes_eq item.key key) key keys item items

-- the next leg, and those behind it
pub one_dropped : (sheets : List LegSheet) (i : ℕ) (d : LegSheet) → i < length sheets → get_or sheets i d ≡ d → drop i sheets ≡ d ∷ drop (i + 1) sheets
one_dropped sheets i d low is =
    drop-cons sheets i d low ∙ ap (λ x. x ∷ drop (suc i) sheets) is ∙ ap (λ n. d ∷ drop n sheets) (let e : suc i ≡ i + 1 = omega arith in e)

left_equal : (place count : ℕ) → place ≤ count → nat_eq 0 (count - place) ≡ nat_eq place count
left_equal place count within = search rules

-- where no keys are left, no items may be
none_left : (items : List Item) → is_some (dealt [] items) ≡ nat_eq 0 (length items)
none_left [] = refl
none_left (item ∷ items) = search rules

pub all_left : (sheets : List LegSheet) (items : List Item) (i place : ℕ) → length sheets ≤ i → place ≤ length items
    → is_some (dealt (map key_of (drop i sheets)) (drop place items)) ≡ nat_eq place (length items)
all_left sheets items i place past within =
    ap (λ l. is_some (dealt (map key_of l) (drop place items))) (drop_of_length-le sheets past)
    ∙ none_left (drop place items) ∙ ap (nat_eq 0) (length-drop place items) ∙ left_equal place (length items) within

-- the texts of the keys of legs are those of the legs
abbrev key_text : LegSheet → List ℕ
key_text sheet = spaced (key_of sheet)

keys_text : (sheets : List LegSheet) → flat_map spaced (map key_of sheets) ≡ flat_map key_text sheets
keys_text [] = refl
keys_text (sheet ∷ sheets) = ap (λ l. spaced (key_of sheet) ++ l) (keys_text sheets)

-- one key more is gathered
pub key_gathered : (sheets : List LegSheet) (i : ℕ) (d : LegSheet) (b b' b'' : List ℕ) (old mid new : SinkView) → i < length sheets
    → HasGathered (flat_map spaced (map key_of (take i sheets))) b old b' mid → HasGathered (spaced (key_of (get_or sheets i d))) b' mid b'' new
    → HasGathered (flat_map spaced (map key_of (take (i + 1) sheets))) b old b'' new
key_gathered sheets i d b b' b'' old mid new low first next =
    subst (λ t. HasGathered t b old b'' new) (sym (keys_text (take (i + 1) sheets)))
    (gathered_piece key_text sheets i d b b' b'' old mid new low (subst (λ t. HasGathered t b old b' mid) (keys_text (take i sheets)) first) next)

-- or the writer stops at it
pub key_stopped : (sheets : List LegSheet) (i : ℕ) (d : LegSheet) (b b' b'' : List ℕ) (old mid new : SinkView) (e : WriteFault) → i < length sheets
    → HasGathered (flat_map spaced (map key_of (take i sheets))) b old b' mid → Gathers (spaced (key_of (get_or sheets i d))) b' mid (Err e) b'' new
    → Gathers (flat_map spaced (map key_of sheets)) b old (Err e) b'' new
key_stopped sheets i d b b' b'' old mid new e low first stop =
    subst (λ t. Gathers t b old (Err e) b'' new) (sym (keys_text sheets))
    (gathers_piece key_text sheets i d b b' b'' old mid new e low (subst (λ t. HasGathered t b old b' mid) (keys_text (take i sheets)) first) stop)
