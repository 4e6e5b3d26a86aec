-- What a parse by `clap` says of the words.
use Rattle.std.proofs.Common.{◌≡◌, ℕ, ◌<◌, ◌^◌, ◌&&◌, ◌∙◌, Bool, true, false, not, List, [], ◌∷◌, Option, Some, None, ap, ap₂, refl, subst, sym, codes}
use Rattle.std.specs.Prelude.{Box, IfNone, IfSome, find, option_and_then, option_map, slice_get}
use Rattle.std.specs.Box.{box_value}
use Rattle.std.specs.Option.{option_map_or}
use Rattle.std.specs.Str.{bytes_eq}
use Rattle.std.specs.Str.Parse.{IsNumeral, digits_value, without_leading_plus}
use Rattle.clap.specs.Matches.{subcommand_name_of}
use Rattle.clap.specs.Simple.{subcommand_rows}
use Rattle.clap.specs.Walk.{row_text}
use Rattle.clap.specs.declared.error.kind.ErrorKind.TheVariants.{DisplayVersion}
use Rattle.clap.specs.Words.{IsAmong, Row, Text, first_of, one_of, read_as, subcommand_rows_of}
use Rattle.clap.specs.declared.parser.matches.ArgMatches.{ArgMatches}
use Rattle.clap.specs.declared.parser.matches.ArgMatches.TheViews.{out-ArgMatches, out-SubCommand}
use Rattle.clap.specs.declared.parser.matches.SubCommand.{SubCommand}
use Rattle.mr_pools.specs.Hash.{name_of_hash}
use Rattle.mr_pools.specs.declared.hash.NamedHash.{NamedHash}
use Rattle.mr_pools.specs.declared.hash.NamedHash.TheVariants.{Sum, Fnv}
use Rattle.mr_words.proofs.TableLemmas.{table_complete}
use Rattle.mr_words.specs.Explain.{Told, explanation_of, told_by}
use Rattle.mr_words.specs.declared.explain.Explanation.{Explanation}
use Rattle.mr_words.specs.Words.{AgreesWith, AreLoopValues, AreNumberWords, AreReadings, FindsBadReadings, FindsCommand, Found, HasBadReadings, HasCanaryValues, HasExplanation, HasLoopValues, HasNodeValues, HasOptions, HasPlan, HasPlanned, HasProxyValues, HasSixWords, HasTimeline, HasWatchValues, IsBoundOr, IsNumberIfGiven, IsNumberIn, IsNumberList, IsNumberOr, IsNumberWord, IsRoom, IsSpan, LacksSixWords, SamePlanned, Say, SayBadReadings, SayVersion, has_flag, readings_in, usual_loop_room, usual_room, usual_seconds, without_end}
use Rattle.mr_words.specs.declared.loop_words.LoopValues.{LoopValues}
use Rattle.mr_words.specs.declared.service_words.NodeValues.{NodeValues}
use Rattle.mr_words.specs.declared.service_words.ProxyValues.{ProxyValues}
use Rattle.mr_words.specs.declared.watch_words.WatchValues.{WatchValues}
use Rattle.mr_words.specs.declared.canary_words.CanaryValues.{CanaryValues}
use Rattle.mr_words.specs.declared.canary_words.Span.{Span}
use Rattle.mr_words.specs.declared.canary_words.Span.TheVariants.{Seconds, UntilMigrated}
use Rattle.mr_words.specs.declared.plan_words.MigrationWords.{MigrationWords}
use Rattle.mr_words.specs.declared.plan_words.PlanValues.{PlanValues}
use Rattle.mr_words.specs.declared.plan_words.Planned.{Planned}
use Rattle.mr_words.specs.declared.plan_words.Planned.TheVariants.{InFile, InWords}
use Rattle.mr_words.specs.declared.words.TimelineValues.{TimelineValues}
use Rattle.mr_words.specs.declared.words.Wanted.{Wanted}
use Rattle.mr_words.specs.declared.words.Wanted.TheVariants.{Plan, Timeline, Run, Check, Draw, Upgrade, Node, Proxy, Watch, Canary, Explain}

row_of_subcommand : {Z : Type 0} (o : Option (Box SubCommand Z)) (name : List ℕ) (rows : List Row)
    → option_map (λ (b : Box SubCommand Z). (out-SubCommand (box_value b)).name.now) o ≡ Some name
    → option_map (λ (p : List ℕ × List Row). p.1) (subcommand_rows o) ≡ Some rows → subcommand_rows o ≡ Some (name, rows)
row_of_subcommand None name rows e f = cc
row_of_subcommand (Some b) name rows e f = cc

-- the subcommand of this name, with these rows
pub sub_row : (m : ArgMatches) (name : List ℕ) (rows : List Row) → subcommand_name_of m ≡ Some name
    → option_map (λ (p : List ℕ × List Row). p.1) (subcommand_rows_of m) ≡ Some rows → subcommand_rows_of m ≡ Some (name, rows)
sub_row m name rows e f = row_of_subcommand (out-ArgMatches m).subcommand name rows e f

-- the text that a number was read of
pub number_read : (text : Option (List ℕ)) (number : ℕ) → (text ≡ None → Some number ≡ None)
    → ((t : List ℕ) → text ≡ Some t
    → (IsNumeral 10 (without_leading_plus t) × (digits_value 10 (without_leading_plus t) < 2 ^ 64)) × (number ≡ digits_value 10 (without_leading_plus t)))
    → (t : List ℕ) × (text ≡ Some t) × IsNumberWord t number
number_read None number none value = let never = none refl in cc
number_read (Some t) number none value =
    let read = value t refl in (t, refl, record { digits = read.0.0; value = read.1; fits = rw read.1 read.0.1 })

-- a text that isn't there has no value
pub text_missing : (text : Option (List ℕ)) (word : List ℕ) → None ≡ text → text ≡ Some word → ⊥
text_missing text word none some = cc

-- values that aren't there are no values
pub no_addresses : (texts : Option (List Text)) (some : List Text) → None ≡ texts → texts ≡ Some some → ⊥
no_addresses texts some none is = cc

-- a text of which no number is read is no number
pub number_missing : (text : Option (List ℕ))
    → ((t : List ℕ) → text ≡ Some t → ¬ (IsNumeral 10 (without_leading_plus t) × (digits_value 10 (without_leading_plus t) < 2 ^ 64)))
    → (word : List ℕ) (number : ℕ) → text ≡ Some word → IsNumberWord word number → ⊥
number_missing text unread word number is number_is = unread word is (number_is.digits, rw (← number_is.value) number_is.fits)

-- the number under a name, and that there is none
pub number_found_in : (name : Text) (rows : List Row) (text : Option Text) (number : ℕ) → text ≡ one_of name rows → (text ≡ None → Some number ≡ None)
    → ((t : List ℕ) → text ≡ Some t
    → (IsNumeral 10 (without_leading_plus t) × (digits_value 10 (without_leading_plus t) < 2 ^ 64)) × (number ≡ digits_value 10 (without_leading_plus t)))
    → IsNumberIn name rows number
number_found_in name rows text number is none value =
    let read = number_read text number none value in
    record { word = read.0; is_row = sym is ∙ read.1; is_number = read.2 }

pub no_number_in : (name : Text) (rows : List Row) (text : Option Text) → text ≡ one_of name rows
    → ((t : List ℕ) → text ≡ Some t → ¬ (IsNumeral 10 (without_leading_plus t) × (digits_value 10 (without_leading_plus t) < 2 ^ 64)))
    → (number : ℕ) → ¬ IsNumberIn name rows number
no_number_in name rows text is unread number has = number_missing text unread has.word number (is ∙ has.is_row) has.is_number

-- what std's `parse` says of a text that it reads
abbrev IsNumeral64 : List ℕ → Type 0
IsNumeral64 text = IsNumeral 10 (without_leading_plus text) × (digits_value 10 (without_leading_plus text) < 2 ^ 64)

-- whether the flag was given, by its first value
pub flag_given : (found : Option Text) (word : Text) → Some word ≡ found
    → bytes_eq word (codes "true") ≡ option_map_or (λ (w : Text). bytes_eq w (codes "true")) found false
flag_given found word is = ap (λ (o : Option Text). option_map_or (λ (w : Text). bytes_eq w (codes "true")) o false) is

pub flag_left_out : (found : Option Text) → None ≡ found → false ≡ option_map_or (λ (w : Text). bytes_eq w (codes "true")) found false
flag_left_out found none = ap (λ (o : Option Text). option_map_or (λ (w : Text). bytes_eq w (codes "true")) o false) none

-- an option that has no first value has no number, and one that has one has some word for it
none_of_row : (row : Option Row) → None ≡ option_and_then (λ (r : Row). slice_get r.values 0) row → option_and_then row_text row ≡ None
none_of_row None none = refl
none_of_row (Some row) none = ap (option_map (read_as row.reading)) (sym none)

some_of_row : (row : Option Row) (first : Text) → Some first ≡ option_and_then (λ (r : Row). slice_get r.values 0) row
    → (word : Text) × (option_and_then row_text row ≡ Some word)
some_of_row None first some = cc
some_of_row (Some row) first some = (read_as row.reading first, ap (option_map (read_as row.reading)) (sym some))

-- the number of an option that `--forever` stands in place of: the greatest one, or none where both were given
pub bound_without_end : (usual : ℕ) (forever : Bool) (id : Text) (rows : List Row) → forever ≡ true → None ≡ first_of id rows
    → IsBoundOr usual forever (one_of id rows) without_end
bound_without_end usual forever id rows is none =
    subst (λ (b : Bool). IsBoundOr usual b (one_of id rows) without_end) (sym is)
    (subst (λ (o : Option Text). IsBoundOr usual true o without_end) (sym (none_of_row (find (λ (r : Row). bytes_eq r.id id) rows) none)) refl)

pub no_bound_beside : (usual : ℕ) (forever : Bool) (first id : Text) (rows : List Row) → forever ≡ true → Some first ≡ first_of id rows → (number : ℕ)
    → ¬ IsBoundOr usual forever (one_of id rows) number
no_bound_beside usual forever first id rows is given number bound =
    let word = some_of_row (find (λ (r : Row). bytes_eq r.id id) rows) first given in
    let beside : IsBoundOr usual true (one_of id rows) number = subst (λ (b : Bool). IsBoundOr usual b (one_of id rows) number) is bound in
    subst (λ (o : Option Text). IsBoundOr usual true o number) word.1 beside

-- the number of an option that may be left out: its word's, or the usual one, or none where the word is no number
pub number_given : (usual number : ℕ) (text : Option (List ℕ)) → ¬ (text ≡ None)
    → ((t : List ℕ) → text ≡ Some t → IsNumeral64 t × (number ≡ digits_value 10 (without_leading_plus t))) → IsNumberOr usual text number
number_given usual number None given value = absurd (given refl)
number_given usual number (Some t) given value =
    let read = value t refl in record { digits = read.0.0; value = read.1; fits = rw read.1 read.0.1 }

pub number_left_out : (usual : ℕ) (text : Option (List ℕ)) → ((t : List ℕ) → ¬ (text ≡ Some t)) → IsNumberOr usual text usual
number_left_out usual None none = refl
number_left_out usual (Some t) none = absurd (none t refl)

pub no_number_given : (usual : ℕ) (text : Option (List ℕ)) → ¬ (text ≡ None) → ((t : List ℕ) → text ≡ Some t → ¬ IsNumeral64 t) → (number : ℕ)
    → ¬ IsNumberOr usual text number
no_number_given usual None given unread number is = given refl
no_number_given usual (Some t) given unread number is = unread t refl (is.digits, rw (← is.value) is.fits)

pub third_is_false : (a b g r : Bool) → (a && (b && (not g && r))) ≡ true → g ≡ false
third_is_false true true false r h = refl
third_is_false true true true r h = cc
third_is_false true false g r h = cc
third_is_false false b g r h = cc

pub same_inside : {X : Type 0} (a b : X) (o : Option X) → o ≡ Some a → o ≡ Some b → a ≡ b
same_inside a b o e f = cc

same_number : (word other : List ℕ) (number same : ℕ) → word ≡ other → IsNumberWord word number → IsNumberWord other same → number ≡ same
same_number word other number same e is other_is =
    is.value ∙ (ap (λ (w : List ℕ). digits_value 10 (without_leading_plus w)) e ∙ sym other_is.value)

pub same_number_or : (usual : ℕ) (text : Option Text) (number same : ℕ) → IsNumberOr usual text number → IsNumberOr usual text same → number ≡ same
same_number_or usual None number same is other_is = is ∙ sym other_is
same_number_or usual (Some word) number same is other_is = same_number word word number same refl is other_is

same_bound : (usual : ℕ) (forever : Bool) (text : Option Text) (number same : ℕ) → IsBoundOr usual forever text number → IsBoundOr usual forever text same
    → number ≡ same
same_bound usual true None number same is other_is = is ∙ sym other_is
same_bound usual true (Some word) number same is other_is = absurd is
same_bound usual false text number same is other_is = same_number_or usual text number same is other_is

-- the number of an option, if it isn't left out
same_number_if : (text : Option Text) (number same : Option ℕ) → IsNumberIfGiven text number → IsNumberIfGiven text same → number ≡ same
same_number_if None None None is other_is = refl
same_number_if None None (Some same) is other_is = absurd other_is
same_number_if None (Some number) same is other_is = absurd is
same_number_if (Some word) None same is other_is = absurd is
same_number_if (Some word) (Some number) None is other_is = absurd other_is
same_number_if (Some word) (Some number) (Some same) is other_is = ap (λ (n : ℕ). Some n) (same_number word word number same refl is other_is)

-- one room
same_room : (on_loops : Bool) (text : Option Text) (room same : ℕ) → IsRoom on_loops text room → IsRoom on_loops text same → room ≡ same
same_room false text room same is other_is = same_number_or usual_room text room same is other_is
same_room true text room same is other_is = same_number_or usual_loop_room text room same is.0 other_is.0

-- one service on loops
same_loop_values : (rows : List Row) (values same : LoopValues) → HasLoopValues rows values → HasLoopValues rows same → values ≡ same
same_loop_values rows values same is also =
    let loops : values.loops ≡ same.loops = same_number_if _ _ _ is.loops_are also.loops_are in
    let most : values.max_clients ≡ same.max_clients = same_number_or _ _ _ _ is.most_are also.most_are in
    let quiet : values.quiet ≡ same.quiet = is.quiet_is ∙ sym also.quiet_is in
    ap (λ (l : Option ℕ). record values { loops = l }) loops
    ∙ (ap (λ (m : ℕ). record same { max_clients = m; quiet = values.quiet }) most ∙ ap (λ (q : Bool). record same { quiet = q }) quiet)

same_loops : (rows : List Row) (values same : Option LoopValues) → AreLoopValues rows values → AreLoopValues rows same → values ≡ same
same_loops rows None None are also = refl
same_loops rows None (Some same) are also = let never : false ≡ true = sym are.0 ∙ also.0 in cc
same_loops rows (Some values) None are also = let never : false ≡ true = sym also.0 ∙ are.0 in cc
same_loops rows (Some values) (Some same) are also = ap (λ (v : LoopValues). Some v) (same_loop_values rows values same are.1 also.1)

-- one span
same_span : (rows : List Row) (span same : Span) → IsSpan rows span → IsSpan rows same → span ≡ same
same_span rows (Seconds number) (Seconds also) is other_is = ap (λ (n : ℕ). Seconds n) (same_number_or _ _ number also is.1 other_is.1)
same_span rows (Seconds number) UntilMigrated is other_is = let never : false ≡ true = sym is.0 ∙ other_is.0 in cc
same_span rows UntilMigrated (Seconds also) is other_is = let never : false ≡ true = sym other_is.0 ∙ is.0 in cc
same_span rows UntilMigrated UntilMigrated is other_is = refl

-- rows that hold both spans hold none, nor do rows whose word is no number
pub no_span_of_both : (rows : List Row) (first : Text) → has_flag (codes "until-migrated") rows ≡ true → Some first ≡ first_of (codes "seconds") rows
    → (span : Span) → ¬ IsSpan rows span
no_span_of_both rows first until given (Seconds number) is = let never : false ≡ true = sym is.0 ∙ until in cc
no_span_of_both rows first until given UntilMigrated is = let never : Some first ≡ None = given ∙ is.1 in cc

pub no_span_of_seconds : (rows : List Row) → has_flag (codes "until-migrated") rows ≡ false
    → ((number : ℕ) → ¬ IsNumberOr usual_seconds (one_of (codes "seconds") rows) number) → (span : Span) → ¬ IsSpan rows span
no_span_of_seconds rows without none (Seconds number) is = none number is.1
no_span_of_seconds rows without none UntilMigrated is = let never : false ≡ true = sym without ∙ is.0 in cc

same_numbers : (words : List Text) (numbers same : List ℕ) → AreNumberWords words numbers → AreNumberWords words same → numbers ≡ same
same_numbers [] [] [] are also = refl
same_numbers [] [] (s ∷ same) are also = absurd also
same_numbers [] (n ∷ numbers) same are also = absurd are
same_numbers (w ∷ words) [] same are also = absurd are
same_numbers (w ∷ words) (n ∷ numbers) [] are also = absurd also
same_numbers (w ∷ words) (n ∷ numbers) (s ∷ same) are also =
    let head : n ≡ s = same_number w w n s refl are.0 also.0 in
    let tail : numbers ≡ same = same_numbers words numbers same are.1 also.1 in
    cc

same_readings : (text : Option Text) (readings same : Option (List ℕ)) → AreReadings text readings → AreReadings text same → readings ≡ same
same_readings None None None are also = refl
same_readings None None (Some s) are also = absurd also
same_readings None (Some r) same are also = absurd are
same_readings (Some text) None same are also = absurd are
same_readings (Some text) (Some r) None are also = absurd also
same_readings (Some text) (Some r) (Some s) are also = ap (λ (numbers : List ℕ). Some numbers) (same_numbers _ r s are also)

-- a command has one name
other_name : {X : Type 0} (found : Option (Text × X)) (a b : Text) (r s : X) → found ≡ Some (a, r) → found ≡ Some (b, s) → a ≡ b
other_name {X = X} found a b r s e f = ap (λ (p : Text × X). p.0) (same_inside (a, r) (b, s) found e f)

-- texts that differ in a byte
texts_differ : (text other : Text) → bytes_eq text other ≡ false → bytes_eq other other ≡ true → ¬ (text ≡ other)
texts_differ text other differs same is = let never : false ≡ true = sym differs ∙ (ap (λ (t : Text). bytes_eq t other) is ∙ same) in cc

-- the name of a command
abbrev name_of : Wanted → Text
name_of (Plan values) = codes "plan"
name_of (Timeline values) = codes "timeline"
name_of (Run file) = codes "run"
name_of (Check file) = codes "check"
name_of (Draw file) = codes "draw"
name_of (Upgrade file) = codes "upgrade"
name_of (Node values) = codes "node"
name_of (Proxy values) = codes "proxy"
name_of (Watch values) = codes "watch"
name_of (Canary values) = codes "canary"
name_of (Explain explanation) = codes "explain"

-- what was found of a command begins with its name
found_named : (found : Found) (wanted : Wanted) → FindsCommand found wanted → (rows : List Row) × (found ≡ Some (name_of wanted, rows))
found_named found (Plan values) h = (h.0, h.1)
found_named found (Timeline values) h = (h.0, h.1)
found_named found (Run file) h = (h.0, h.1)
found_named found (Check file) h = (h.0, h.1)
found_named found (Draw file) h = (h.0, h.1)
found_named found (Upgrade file) h = (h.0, h.1)
found_named found (Node values) h = (h.0, h.1)
found_named found (Proxy values) h = (h.0, h.1)
found_named found (Watch values) h = (h.0, h.1)
found_named found (Canary values) h = (h.0, h.1)
found_named found (Explain explanation) h = (h.0, h.1)

one_name : (found : Found) (wanted : Wanted) (name : Text) (rows : List Row) → FindsCommand found wanted → found ≡ Some (name, rows) → name_of wanted ≡ name
one_name found wanted name rows h is = let named = found_named found wanted h in other_name found _ _ _ _ named.1 is

same_rows : (found : Found) (name : Text) (a b : List Row) → found ≡ Some (name, a) → found ≡ Some (name, b) → a ≡ b
same_rows found name a b e f = ap (λ (p : Text × List Row). p.1) (same_inside (name, a) (name, b) found e f)

-- one layer and one number name one refusal
same_told : (rows : List Row) (told same : Told) → HasExplanation rows told → HasExplanation rows same → told ≡ same
same_told rows told same is also =
    let layer : told.layer ≡ same.layer = same_inside _ _ _ is.layer_is also.layer_is in
    let word : is.number ≡ also.number = same_inside _ _ _ is.number_row also.number_row in
    let number : told.number ≡ same.number = same_number _ _ _ _ word is.number_is also.number_is in
    same_inside told same (explanation_of told.layer told.number) is.is_told (ap₂ explanation_of layer number ∙ also.is_told)

same_number_in : (name : Text) (rows : List Row) (number same : ℕ) → IsNumberIn name rows number → IsNumberIn name rows same → number ≡ same
same_number_in name rows number same is also =
    same_number _ _ _ _ (same_inside _ _ (one_of name rows) is.is_row also.is_row) is.is_number also.is_number

-- no two hashes have one name
same_hash : (hash same : NamedHash) → name_of_hash hash ≡ name_of_hash same → hash ≡ same
same_hash Sum Sum e = refl
same_hash Fnv Fnv e = refl
same_hash Sum Fnv e = cc
same_hash Fnv Sum e = cc

-- the hash that a word names, and that it names none
pub hash_named : (text : Option Text) (word : Text) (hash : Option NamedHash) → Some word ≡ text → IfSome hash (λ h. word ≡ name_of_hash h)
    → IfSome hash (λ h. text ≡ Some (name_of_hash h))
hash_named text word None is named = tt
hash_named text word (Some h) is named = sym is ∙ ap (λ (t : Text). Some t) named

pub no_hash_named : (text : Option Text) (word : Text) (hash : Option NamedHash) → Some word ≡ text
    → IfNone hash ((h : NamedHash) → ¬ (word ≡ name_of_hash h)) → IfNone hash ((h : NamedHash) → ¬ (text ≡ Some (name_of_hash h)))
no_hash_named text word (Some h) is unknown = tt
no_hash_named text word None is unknown = λ h has. unknown h (same_inside word (name_of_hash h) text (sym is) has)

-- rows hold one of the two forms of a plan, and one plan
same_planned : (rows : List Row) (read values : Planned) (at same : ℕ) → HasPlanned rows read at → HasPlanned rows values same
    → SamePlanned values read × (at ≡ same)
same_planned rows (InFile read) (InFile path) at same is also =
    (same_inside _ _ _ is.0.config_is also.0.config_is, same_number_in _ _ _ _ is.0.at_is also.0.at_is)
same_planned rows (InFile read) (InWords words) at same is also = let never : Some words.old.now ≡ None = sym also.0.old_is ∙ is.1 in cc
same_planned rows (InWords read) (InFile path) at same is also = let never : Some read.old.now ≡ None = sym is.0.old_is ∙ also.1 in cc
same_planned rows (InWords read) (InWords words) at same is also =
    let hash : name_of_hash read.hash ≡ name_of_hash words.hash = same_inside _ _ _ is.0.hash_is also.0.hash_is in (
      (
        same_inside _ _ _ is.0.old_is also.0.old_is,
        same_inside _ _ _ is.0.new_is also.0.new_is,
        same_number_in _ _ _ _ is.0.start_is also.0.start_is,
        same_number_in _ _ _ _ is.0.interval_is also.0.interval_is,
        same_hash _ _ hash,
      ),
      same_number_in _ _ _ _ is.0.at_is also.0.at_is,
    )

-- what was found is one command
one_found : (found : Found) (read wanted : Wanted) → FindsCommand found read → FindsCommand found wanted → AgreesWith wanted read
one_found found (Plan read) (Plan values) r p =
    let also : HasPlan r.0 values = subst (λ (rows : List Row). HasPlan rows values) (same_rows found _ p.0 r.0 p.1 r.1) p.2 in
    same_planned r.0 read.planned values.planned read.at values.at r.2 also
one_found found (Timeline read) (Timeline values) r p =
    let also : HasTimeline r.0 values = subst (λ (rows : List Row). HasTimeline rows values) (same_rows found _ p.0 r.0 p.1 r.1) p.2 in (
      same_inside _ _ _ r.2.config_is also.config_is,
      same_readings _ _ _ r.2.readings_are also.readings_are,
    )
one_found found (Run read) (Run file) r p = sym r.2 ∙ (ap (first_of (codes "file")) (same_rows found _ r.0 p.0 r.1 p.1) ∙ p.2)
one_found found (Check read) (Check file) r p = sym r.2 ∙ (ap (first_of (codes "file")) (same_rows found _ r.0 p.0 r.1 p.1) ∙ p.2)
one_found found (Draw read) (Draw file) r p = sym r.2 ∙ (ap (first_of (codes "file")) (same_rows found _ r.0 p.0 r.1 p.1) ∙ p.2)
one_found found (Upgrade read) (Upgrade file) r p = sym r.2 ∙ (ap (first_of (codes "file")) (same_rows found _ r.0 p.0 r.1 p.1) ∙ p.2)
one_found found (Node read) (Node values) r p =
    let also : HasNodeValues r.0 values = subst (λ (rows : List Row). HasNodeValues rows values) (same_rows found _ p.0 r.0 p.1 r.1) p.2 in (
      same_inside _ _ _ r.2.listen_is also.listen_is,
      same_number_or _ _ _ _ r.2.capacity_is also.capacity_is,
      same_bound _ _ _ _ _ r.2.clients_is also.clients_is,
      same_bound _ _ _ _ _ r.2.turns_is also.turns_is,
      same_number_or _ _ _ _ r.2.idle_is also.idle_is,
      sym r.2.metrics_is ∙ also.metrics_is,
      same_loops r.0 _ _ r.2.loops_are also.loops_are,
    )
one_found found (Proxy read) (Proxy values) r p =
    let also : HasProxyValues r.0 values = subst (λ (rows : List Row). HasProxyValues rows values) (same_rows found _ p.0 r.0 p.1 r.1) p.2 in (
      same_inside _ _ _ r.2.config_is also.config_is,
      same_inside _ _ _ r.2.listen_is also.listen_is,
      same_room _ _ _ _ r.2.room_is also.room_is,
      same_bound _ _ _ _ _ r.2.clients_is also.clients_is,
      same_bound _ _ _ _ _ r.2.turns_is also.turns_is,
      same_number_or _ _ _ _ r.2.leg_is also.leg_is,
      same_number_or _ _ _ _ r.2.idle_is also.idle_is,
      sym r.2.metrics_is ∙ also.metrics_is,
      same_loops r.0 _ _ r.2.loops_are also.loops_are,
    )
one_found found (Watch read) (Watch values) r p =
    let also : HasWatchValues r.0 values = subst (λ (rows : List Row). HasWatchValues rows values) (same_rows found _ p.0 r.0 p.1 r.1) p.2 in (
      same_inside _ _ _ r.2.config_is also.config_is,
      r.2.once_is ∙ sym also.once_is,
      r.2.json_is ∙ sym also.json_is,
      same_inside _ _ _ r.2.addresses_are also.addresses_are,
    )
one_found found (Canary read) (Canary values) r p =
    let also : HasCanaryValues r.0 values = subst (λ (rows : List Row). HasCanaryValues rows values) (same_rows found _ p.0 r.0 p.1 r.1) p.2 in (
      same_inside _ _ _ r.2.config_is also.config_is,
      same_span r.0 _ _ r.2.span_is also.span_is,
      same_number_or _ _ _ _ r.2.clients_are also.clients_are,
      same_number_or _ _ _ _ r.2.keys_are also.keys_are,
      same_number_or _ _ _ _ r.2.rate_is also.rate_is,
      r.2.prefix_is ∙ sym also.prefix_is,
      r.2.json_is ∙ sym also.json_is,
      same_inside _ _ _ r.2.proxies_are also.proxies_are,
    )
one_found found (Explain read) (Explain explanation) r p =
    let also : HasExplanation r.0 (told_by explanation) =
    subst (λ (rows : List Row). HasExplanation rows (told_by explanation)) (same_rows found _ p.0 r.0 p.1 r.1) p.2 in
    same_told r.0 (told_by read) (told_by explanation) r.2 also
one_found found read wanted r p =
    let named = found_named found wanted p in
    absurd (texts_differ (name_of read) (name_of wanted) refl refl (one_name found read (name_of wanted) named.0 r named.1))

-- words say one command
pub one_said : (words : List Text) (read wanted : Wanted) → Say words read → Say words wanted → AgreesWith wanted read
one_said words read wanted r p = one_found _ read wanted r.finds p.finds

-- words that say a command don't call for the version
pub no_version_said : (words : List Text) (wanted : Wanted) → Say words wanted → SayVersion words → ⊥
no_version_said words wanted says version = subst (IsAmong DisplayVersion) says.fits version

some_readings : (text : Option Text) (readings : Option (List ℕ)) (word : Text) → text ≡ Some word
    → ((numbers : List ℕ) → ¬ AreReadings (Some word) (Some numbers)) → AreReadings text readings → ⊥
some_readings None readings word e bad are = cc
some_readings (Some t) None word e bad are = are
some_readings (Some t) (Some numbers) word e bad are =
    bad numbers (subst (λ (text : Option Text). AreReadings text (Some numbers)) e are)

-- a timeline's readings aren't bad ones
readings_not_bad : (rows : List Row) (readings : Option (List ℕ)) → AreReadings (first_of (codes "readings") rows) readings → ¬ HasBadReadings rows
readings_not_bad rows readings are bad = some_readings _ readings bad.text bad.is bad.bad are

pub said_not_bad : (words : List Text) (wanted : Wanted) → Say words wanted → ¬ SayBadReadings words
said_not_bad words (Timeline values) says bad =
    let also : HasBadReadings says.finds.0 = subst HasBadReadings (same_rows _ _ bad.finds.0 says.finds.0 bad.finds.1 says.finds.1) bad.finds.2 in
    readings_not_bad says.finds.0 (readings_in values) says.finds.2.readings_are also
said_not_bad words wanted says bad =
    texts_differ (name_of wanted) (codes "timeline") refl refl (one_name _ wanted (codes "timeline") bad.finds.0 says.finds bad.finds.1)

-- the readings that were given, and those that weren't
pub readings_given : (text : Option Text) (word : Text) (numbers : List ℕ) → Some word ≡ text → IsNumberList word numbers → AreReadings text (Some numbers)
readings_given text word numbers is are = subst (λ (o : Option Text). AreReadings o (Some numbers)) is are

pub no_readings_given : (text : Option Text) → None ≡ text → AreReadings text None
no_readings_given text none = subst (λ (o : Option Text). AreReadings o None) none tt

-- nothing that is looked for was found
pub record FindsNothing (found : Found) : Type 0 where
  pub no_command : (wanted : Wanted) → ¬ FindsCommand found wanted
  pub no_readings : ¬ FindsBadReadings found

-- the words of a plan are of neither form where the first of the six is missing and an option is
no_file_planned : (rows : List Row) → LacksSixWords rows → ((path : Text) (at : ℕ) → ¬ HasOptions rows path at) → (planned : Planned) (at : ℕ)
    → ¬ HasPlanned rows planned at
no_file_planned rows none lacks (InFile path) at has = lacks path.now at has.0
no_file_planned rows none lacks (InWords words) at has = let never : Some words.old.now ≡ None = sym has.0.old_is ∙ none in cc

pub no_file_plan : (rows : List Row) → LacksSixWords rows → ((path : Text) (at : ℕ) → ¬ HasOptions rows path at) → (values : PlanValues)
    → ¬ HasPlan rows values
no_file_plan rows none lacks values has = no_file_planned rows none lacks values.planned values.at has

-- nor where the first is there and another one is missing
no_said_planned : (rows : List Row) → ¬ LacksSixWords rows → ((words : MigrationWords) (at : ℕ) → ¬ HasSixWords rows words at) → (planned : Planned) (at : ℕ)
    → ¬ HasPlanned rows planned at
no_said_planned rows some lacks (InFile path) at has = some has.1
no_said_planned rows some lacks (InWords words) at has = lacks words at has.0

pub no_said_plan : (rows : List Row) → ¬ LacksSixWords rows → ((words : MigrationWords) (at : ℕ) → ¬ HasSixWords rows words at) → (values : PlanValues)
    → ¬ HasPlan rows values
no_said_plan rows some lacks values has = no_said_planned rows some lacks values.planned values.at has

plan_not_said : (found : Found) (rows : List Row) → found ≡ Some (codes "plan", rows) → ((values : PlanValues) → ¬ HasPlan rows values)
    → (wanted : Wanted) → ¬ FindsCommand found wanted
plan_not_said found rows is none (Plan values) finds =
    none values (subst (λ (r : List Row). HasPlan r values) (same_rows found _ finds.0 rows finds.1 is) finds.2)
plan_not_said found rows is none wanted finds =
    texts_differ (name_of wanted) (codes "plan") refl refl (one_name found wanted (codes "plan") rows finds is)

-- a command of another name than `timeline` has no readings
no_readings_of : (found : Found) (name : Text) (rows : List Row) → found ≡ Some (name, rows) → ¬ (name ≡ codes "timeline") → ¬ FindsBadReadings found
no_readings_of found name rows is other finds = other (other_name found _ _ _ _ is finds.1)

plan_is_no_timeline : ¬ (codes "plan" ≡ codes "timeline")
plan_is_no_timeline e = cc

node_is_no_timeline : ¬ (codes "node" ≡ codes "timeline")
node_is_no_timeline e = cc

proxy_is_no_timeline : ¬ (codes "proxy" ≡ codes "timeline")
proxy_is_no_timeline e = cc

watch_is_no_timeline : ¬ (codes "watch" ≡ codes "timeline")
watch_is_no_timeline e = cc

canary_is_no_timeline : ¬ (codes "canary" ≡ codes "timeline")
canary_is_no_timeline e = cc

explain_is_no_timeline : ¬ (codes "explain" ≡ codes "timeline")
explain_is_no_timeline e = cc

-- a plan without its values
pub plan_not_found : (m : ArgMatches) (rows : List Row) → subcommand_rows_of m ≡ Some (codes "plan", rows) → ((values : PlanValues) → ¬ HasPlan rows values)
    → FindsNothing (subcommand_rows_of m)
plan_not_found m rows is none = record {
  no_command = plan_not_said (subcommand_rows_of m) rows is none;
  no_readings = no_readings_of (subcommand_rows_of m) (codes "plan") rows is plan_is_no_timeline;
}

node_not_said : (found : Found) (rows : List Row) → found ≡ Some (codes "node", rows) → ((values : NodeValues) → ¬ HasNodeValues rows values)
    → (wanted : Wanted) → ¬ FindsCommand found wanted
node_not_said found rows is none (Node values) finds =
    none values (subst (λ (r : List Row). HasNodeValues r values) (same_rows found _ finds.0 rows finds.1 is) finds.2)
node_not_said found rows is none wanted finds =
    texts_differ (name_of wanted) (codes "node") refl refl (one_name found wanted (codes "node") rows finds is)

-- a node without its values
pub node_not_found : (m : ArgMatches) (rows : List Row) → subcommand_rows_of m ≡ Some (codes "node", rows) → ((values : NodeValues) → ¬ HasNodeValues rows values)
    → FindsNothing (subcommand_rows_of m)
node_not_found m rows is none = record {
  no_command = node_not_said (subcommand_rows_of m) rows is none;
  no_readings = no_readings_of (subcommand_rows_of m) (codes "node") rows is node_is_no_timeline;
}

proxy_not_said : (found : Found) (rows : List Row) → found ≡ Some (codes "proxy", rows) → ((values : ProxyValues) → ¬ HasProxyValues rows values)
    → (wanted : Wanted) → ¬ FindsCommand found wanted
proxy_not_said found rows is none (Proxy values) finds =
    none values (subst (λ (r : List Row). HasProxyValues r values) (same_rows found _ finds.0 rows finds.1 is) finds.2)
proxy_not_said found rows is none wanted finds =
    texts_differ (name_of wanted) (codes "proxy") refl refl (one_name found wanted (codes "proxy") rows finds is)

-- a proxy without its values
pub proxy_not_found : (m : ArgMatches) (rows : List Row) → subcommand_rows_of m ≡ Some (codes "proxy", rows) → ((values : ProxyValues) → ¬ HasProxyValues rows values)
    → FindsNothing (subcommand_rows_of m)
proxy_not_found m rows is none = record {
  no_command = proxy_not_said (subcommand_rows_of m) rows is none;
  no_readings = no_readings_of (subcommand_rows_of m) (codes "proxy") rows is proxy_is_no_timeline;
}

watch_not_said : (found : Found) (rows : List Row) → found ≡ Some (codes "watch", rows) → ((values : WatchValues) → ¬ HasWatchValues rows values)
    → (wanted : Wanted) → ¬ FindsCommand found wanted
watch_not_said found rows is none (Watch values) finds =
    none values (subst (λ (r : List Row). HasWatchValues r values) (same_rows found _ finds.0 rows finds.1 is) finds.2)
watch_not_said found rows is none wanted finds =
    texts_differ (name_of wanted) (codes "watch") refl refl (one_name found wanted (codes "watch") rows finds is)

-- a watch without its values
pub watch_not_found : (m : ArgMatches) (rows : List Row) → subcommand_rows_of m ≡ Some (codes "watch", rows) → ((values : WatchValues) → ¬ HasWatchValues rows values)
    → FindsNothing (subcommand_rows_of m)
watch_not_found m rows is none = record {
  no_command = watch_not_said (subcommand_rows_of m) rows is none;
  no_readings = no_readings_of (subcommand_rows_of m) (codes "watch") rows is watch_is_no_timeline;
}

canary_not_said : (found : Found) (rows : List Row) → found ≡ Some (codes "canary", rows) → ((values : CanaryValues) → ¬ HasCanaryValues rows values)
    → (wanted : Wanted) → ¬ FindsCommand found wanted
canary_not_said found rows is none (Canary values) finds =
    none values (subst (λ (r : List Row). HasCanaryValues r values) (same_rows found _ finds.0 rows finds.1 is) finds.2)
canary_not_said found rows is none wanted finds =
    texts_differ (name_of wanted) (codes "canary") refl refl (one_name found wanted (codes "canary") rows finds is)

-- a canary without its values
pub canary_not_found : (m : ArgMatches) (rows : List Row) → subcommand_rows_of m ≡ Some (codes "canary", rows) → ((values : CanaryValues) → ¬ HasCanaryValues rows values)
    → FindsNothing (subcommand_rows_of m)
canary_not_found m rows is none = record {
  no_command = canary_not_said (subcommand_rows_of m) rows is none;
  no_readings = no_readings_of (subcommand_rows_of m) (codes "canary") rows is canary_is_no_timeline;
}

explanation_not_said : (found : Found) (rows : List Row) → found ≡ Some (codes "explain", rows)
    → ((explanation : Explanation) → ¬ HasExplanation rows (told_by explanation)) → (wanted : Wanted) → ¬ FindsCommand found wanted
explanation_not_said found rows is none (Explain explanation) finds =
    none explanation (subst (λ (r : List Row). HasExplanation r (told_by explanation)) (same_rows found _ finds.0 rows finds.1 is) finds.2)
explanation_not_said found rows is none wanted finds =
    texts_differ (name_of wanted) (codes "explain") refl refl (one_name found wanted (codes "explain") rows finds is)

-- a fault that no layer has
pub explanation_not_found : (m : ArgMatches) (rows : List Row) → subcommand_rows_of m ≡ Some (codes "explain", rows)
    → ((explanation : Explanation) → ¬ HasExplanation rows (told_by explanation)) → FindsNothing (subcommand_rows_of m)
explanation_not_found m rows is none = record {
  no_command = explanation_not_said (subcommand_rows_of m) rows is none;
  no_readings = no_readings_of (subcommand_rows_of m) (codes "explain") rows is explain_is_no_timeline;
}

-- the explanation that a layer and a number name, and that they name none
pub explanation_read : (rows : List Row) (layer word : Text) (number : ℕ) (found : Option Explanation) → Some layer ≡ first_of (codes "layer") rows
    → Some word ≡ one_of (codes "number") rows → IsNumberWord word number → option_map told_by found ≡ explanation_of layer number
    → IfSome found (λ explanation. HasExplanation rows (told_by explanation))
explanation_read rows layer word number None layer_is word_is number_is found = tt
explanation_read rows layer word number (Some explanation) layer_is word_is number_is found =
    let told = told_by explanation in
    let own : (told.layer ≡ layer) × (told.number ≡ number) =
    subst (λ (o : Option Told). IfSome o (λ t. (t.layer ≡ layer) × (t.number ≡ number))) (sym found) (table_complete.own layer number) in
    record {
      number = word;
      layer_is = sym layer_is ∙ ap (λ (text : Text). Some text) (sym own.0);
      number_row = sym word_is;
      number_is = subst (λ (n : ℕ). IsNumberWord word n) (sym own.1) number_is;
      is_told = ap₂ explanation_of own.0 own.1 ∙ sym found;
    }

pub no_explanation_read : (rows : List Row) (layer word : Text) (number : ℕ) (found : Option Explanation) → Some layer ≡ first_of (codes "layer") rows
    → Some word ≡ one_of (codes "number") rows → IsNumberWord word number → option_map told_by found ≡ explanation_of layer number
    → IfNone found ((explanation : Explanation) → ¬ HasExplanation rows (told_by explanation))
no_explanation_read rows layer word number (Some explanation) layer_is word_is number_is found = tt
no_explanation_read rows layer word number None layer_is word_is number_is found = λ explanation has.
    let told = told_by explanation in
    let same_layer : told.layer ≡ layer = same_inside _ _ _ has.layer_is (sym layer_is) in
    let same_word : has.number ≡ word = same_inside _ _ _ has.number_row (sym word_is) in
    let number_same : told.number ≡ number = same_number _ _ _ _ same_word has.number_is number_is in
    let some : explanation_of layer number ≡ Some told = ap₂ explanation_of (sym same_layer) (sym number_same) ∙ has.is_told in
    cc

-- a timeline without the name of its file
pub timeline_lacks_config : (rows : List Row) (readings : Option (List ℕ)) → AreReadings (first_of (codes "readings") rows) readings
    → None ≡ first_of (codes "config") rows → ((values : TimelineValues) → ¬ HasTimeline rows values) × ¬ HasBadReadings rows
timeline_lacks_config rows readings are none =
    ((λ values has. text_missing _ _ none has.config_is), readings_not_bad rows readings are)
