-- The text of a transcript is no shorter than the text of the blocks in its history.
use Rattle.std.proofs.Common.{rules, ◌≡◌, ℕ, ◌+◌, ◌*◌, ◌<◌, ◌≤◌, Bool, true, false, cond, List, [], ◌∷◌, ◌++◌, length, map, codes, sum_by, Option, Some, bytes_eq, refl, sym, ap, ◌∙◌, arith, length-append, true≢false}
use Rattle.std.specs.Prelude.{unwrap_or}
use Rattle.std.specs.Str.{encode_utf8_all}
use Rattle.std.specs.Ordering.{nat_cmp, match_ordering}
use Rattle.std.specs.Cmp.Lexicographic.{slice_cmp}
use Rattle.std.specs.declared.cmp.Ordering.{Ordering}
use Rattle.std.specs.declared.cmp.Ordering.TheVariants.{Less, Equal, Greater}
use Rattle.std.proofs.lemmas.Str.{length-le-encodes}
use Rattle.std.proofs.lemmas.List.Sums.{sum_by-cons}
use Rattle.json.specs.Print.{escape_byte, escape, quoted}
use Rattle.serde_json.specs.Data.{Data, null, boolean, number, string, array, object, Members, no_members, member, put}
use Rattle.serde_json.specs.Find.{get, get_member}
use Rattle.serde_json.specs.View.{items_of}
use Rattle.serde_json.specs.Written.{compact_text, items_text, members_text, comma_if}
use Rattle.serde_json.proofs.Views.{get_member-put, get_member-put_other}
use Rattle.hex.specs.Hex.{lower_digits}
use Rattle.hex.proofs.HexLemmas.{length-encode_with}
use Rattle.mr_shown.specs.Data.{shown_data}
use Rattle.mr_shown.specs.declared.format.Format.{Format}
use Rattle.mr_shown.specs.declared.format.Format.TheVariants.{One, Two}
use Rattle.mr_text.specs.declared.item.Item.{Item}
use Rattle.mr_text.specs.declared.reply.Reply.{Reply}
use Rattle.mr_text.specs.declared.reply.Reply.TheVariants as reply
use Rattle.mr_history.specs.declared.entry.Entry.{Entry}
use Rattle.mr_history.specs.declared.entry.Entry.TheVariants as entry
use Rattle.mr_world.specs.Premises.{premises_of}
use Rattle.mr_world.specs.WorldView.{WorldView}
use Rattle.mr_world.specs.declared.note.Note.{Note}
use Rattle.mr_world.specs.declared.premises.Premises.{Premises}
use Rattle.mr_shown.specs.Shown.{data_json, items_json, item_json, reply_json, entry_json, entries_json, notes_json, premises_json, verdict_json}
use Rattle.mr_shown.specs.declared.verdict.KeptVerdict.{KeptVerdict}
use Rattle.mr_scripts.specs.Limits.{most_bytes}
use Rattle.mr_transcripts.specs.steps.Least.{blocks_of_reply, blocks_of_entry, blocks_of_history, filling_data, HasLongHistory}
use Rattle.mr_transcripts.specs.Transcript.{with_outcome, transcript_text}

either_long : (b : Bool) (xs ys : List ℕ) → 1 ≤ length xs → 1 ≤ length ys → 1 ≤ length (cond b xs ys)
either_long true xs ys x y = x
either_long false xs ys x y = y

-- an escape only lengthens
escape_byte_long : (x : ℕ) → 1 ≤ length (escape_byte x)
unfolding escape_byte
escape_byte_long x = search (rules, either_long)

escape_long : (s : List ℕ) → length s ≤ length (escape s)
escape_long [] = omega arith
escape_long (x ∷ s) = omega (arith, escape_long s, escape_byte_long x, length-append (escape_byte x) (escape s))

text_long : (text : List ℕ) → length text ≤ length (compact_text (string (encode_utf8_all text)))
text_long text =
    omega (arith, length-le-encodes text, escape_long (encode_utf8_all text), length-append (escape (encode_utf8_all text)) (34 ∷ []))

-- how long the text of so many bytes of data is at least
abbrev least_length : Format → ℕ → ℕ
least_length One bytes = bytes
least_length Two bytes = 2 * bytes

least_of_none : (format : Format) → least_length format 0 ≡ 0
least_of_none One = refl
least_of_none Two = refl

least_of_both : (format : Format) (a b : ℕ) → least_length format (a + b) ≡ least_length format a + least_length format b
least_of_both One a b = refl
least_of_both Two a b = omega arith

filled : (format : Format) (bytes : ℕ) → filling_data format ≤ bytes → most_bytes ≤ least_length format bytes
filled One bytes full = full
filled Two bytes full = omega arith

data_long : (format : Format) (bytes : List ℕ) → least_length format (length bytes) ≤ length (compact_text (data_json format bytes))
data_long One bytes = text_long bytes
data_long Two bytes = omega (arith, length-encode_with lower_digits bytes, text_long (shown_data Two bytes))

-- items that are each so long are together as long
items_long : {X : Type 0} (format : Format) (show : X → Data) (size : X → ℕ) → ((x : X) → least_length format (size x) ≤ length (compact_text (show x)))
    → (later : Bool) (xs : List X) → least_length format (sum_by size xs) ≤ length (items_text later (items_of (map show xs)))
items_long format show size long later [] = omega (arith, least_of_none format)
items_long format show size long later (x ∷ xs) =
    let rest = items_text true (items_of (map show xs)) in
    let sum = ap (least_length format) (sum_by-cons size x xs) ∙ least_of_both format (size x) (sum_by size xs) in
    omega
    (arith, sum, long x, items_long format show size long true xs, length-append (comma_if later) (compact_text (show x) ++ rest), length-append (compact_text (show x)) rest)

found_either : (o : Ordering) (rest : Option Data) (held found : Data) (P : Type 0) → match_ordering o rest (Some held) rest ≡ Some found
    → (rest ≡ Some found → P) → (held ≡ found → P) → P
found_either Less rest held found P is later here = later is
found_either Equal rest held found P is later here = here (ap (λ o. unwrap_or o held) is)
found_either Greater rest held found P is later here = later is

within : (a b c d : List ℕ) → length c + length d ≤ length (a ++ (b ++ 58 ∷ (c ++ d)))
within a b c d = omega (arith, length-append a (b ++ 58 ∷ (c ++ d)), length-append b (58 ∷ (c ++ d)), length-append c d)

-- what members have under a key stands in their text
member_long : (key : List ℕ) (found : Data) (later : Bool) (members : Members) → get_member key members ≡ Some found
    → length (compact_text found) ≤ length (members_text later members)
member_long key found later no_members is = search (rules, is)
member_long key found later (member other held members) is =
    let all = within (comma_if later) (quoted other) (compact_text held) (members_text true members) in
    found_either (slice_cmp nat_cmp key other) (get_member key members) held found (length (compact_text found) ≤ length (members_text later (member other held members)))
    is
    (λ e. omega (arith, all, member_long key found true members e))
    (λ e. let same = ap (λ d. length (compact_text d)) e in omega (arith, all, same))

-- what a value has under a key stands in its text
value_long : (key : List ℕ) (found value : Data) → get key value ≡ Some found → length (compact_text found) ≤ length (compact_text value)
value_long key found null is = search (rules, is)
value_long key found (boolean b) is = search (rules, is)
value_long key found (number n) is = search (rules, is)
value_long key found (string s) is = search (rules, is)
value_long key found (array ds) is = search (rules, is)
value_long key found (object members) is = omega (arith, member_long key found false members is)

item_long : (format : Format) (i : Item) → least_length format (length i.block) ≤ length (compact_text (item_json format i))
item_long format i = omega (arith, data_long format i.block, value_long (codes "data") (data_json format i.block) (item_json format i) refl)

none_long : (format : Format) (text : List ℕ) → least_length format 0 ≤ length text
none_long format text = omega (arith, least_of_none format)

reply_long : (format : Format) (r : Reply) → least_length format (blocks_of_reply r) ≤ length (compact_text (reply_json format r))
reply_long format (reply.Items items) =
    let told = value_long (codes "items") (array (items_json format items)) (reply_json format (reply.Items items)) refl in
    omega (arith, told, items_long format (item_json format) (λ i. length i.block) (item_long format) false items)
reply_long format reply.Stored = none_long format (compact_text (reply_json format reply.Stored))
reply_long format reply.Deleted = none_long format (compact_text (reply_json format reply.Deleted))
reply_long format reply.NotFound = none_long format (compact_text (reply_json format reply.NotFound))
reply_long format (reply.ServerError cause) = none_long format (compact_text (reply_json format (reply.ServerError cause)))
reply_long format (reply.ClientError cause) = none_long format (compact_text (reply_json format (reply.ClientError cause)))
reply_long format reply.Error = none_long format (compact_text (reply_json format reply.Error))

entry_long : (format : Format) (e : Entry) → least_length format (blocks_of_entry e) ≤ length (compact_text (entry_json format e))
entry_long format (entry.Issued op proxy request) = none_long format (compact_text (entry_json format (entry.Issued op proxy request)))
entry_long format (entry.Stored by key flags block) =
    let told = value_long (codes "data") (data_json format block) (entry_json format (entry.Stored by key flags block)) refl in
    omega (arith, told, data_long format block)
entry_long format (entry.Removed op side key) = none_long format (compact_text (entry_json format (entry.Removed op side key)))
entry_long format (entry.Answered op reply) =
    let told = value_long (codes "reply") (reply_json format reply) (entry_json format (entry.Answered op reply)) refl in
    omega (arith, told, reply_long format reply)

apart : (key other : List ℕ) → bytes_eq key key ≡ true → bytes_eq key other ≡ false → key ≡ other → ⊥
apart key other same differ is = true≢false (sym same ∙ ap (bytes_eq key) is ∙ differ)

-- what is put under the other keys leaves the history there
history_told : (format : Format) (members : Members) (notes : List Note) (history : List Entry) (premises : Premises) (verdict : KeptVerdict)
    → get (codes "history") (with_outcome format (object members) notes history premises verdict) ≡ Some (array (entries_json format history))
history_told format members notes history premises verdict =
    let name = codes "history" in
    let with_history : Members = put name (array (entries_json format history)) members in
    let with_notes : Members = put (codes "notes") (array (notes_json notes)) with_history in
    let with_premises : Members = put (codes "premises") (premises_json premises) with_notes in
    get_member-put_other name (codes "verdict") (verdict_json verdict) with_premises (apart name (codes "verdict") refl refl)
    ∙ get_member-put_other name (codes "premises") (premises_json premises) with_notes (apart name (codes "premises") refl refl)
    ∙ get_member-put_other name (codes "notes") (array (notes_json notes)) with_history (apart name (codes "notes") refl refl)
    ∙ get_member-put name (array (entries_json format history)) members

outcome_long : (format : Format) (members : Members) (notes : List Note) (history : List Entry) (premises : Premises) (verdict : KeptVerdict)
    → least_length format (blocks_of_history history) ≤ length (compact_text (with_outcome format (object members) notes history premises verdict))
outcome_long format members notes history premises verdict =
    let told = value_long (codes "history") (array (entries_json format history)) (with_outcome format (object members) notes history premises verdict)
    (history_told format members notes history premises verdict) in
    omega (arith, told, items_long format (entry_json format) blocks_of_entry (entry_long format) false history)

pub long_history_is_too_large : (format : Format) (script : Data) (notes : List Note) (world : WorldView) (verdict : KeptVerdict) → HasLongHistory format script world.history
    → most_bytes < length (transcript_text format script notes world verdict) + 1
long_history_is_too_large format null notes world verdict long = absurd long
long_history_is_too_large format (boolean b) notes world verdict long = absurd long
long_history_is_too_large format (number n) notes world verdict long = absurd long
long_history_is_too_large format (string s) notes world verdict long = absurd long
long_history_is_too_large format (array ds) notes world verdict long = absurd long
long_history_is_too_large format (object members) notes world verdict long =
    omega (arith, filled format (blocks_of_history world.history) long, outcome_long format members notes world.history (premises_of world) verdict)
