-- What happened is shown without a number that isn't whole.
use Rattle.std.proofs.Common.{rules, ◌≡◌, ℕ, ◌||◌, Bool, true, false, List, [], ◌∷◌, map, refl, codes, ℤ, pos, negsuc}
use Rattle.std.specs.Ordering.{nat_cmp, match_ordering}
use Rattle.std.specs.Cmp.Lexicographic.{slice_cmp}
use Rattle.std.specs.declared.cmp.Ordering.{Ordering}
use Rattle.std.specs.declared.cmp.Ordering.TheVariants.{Less, Equal, Greater}
use Rattle.serde_json.specs.Data.{Data, null, boolean, number, string, array, object, Members, no_members, member, put}
use Rattle.serde_json.specs.Find.{of_integer, is_float}
use Rattle.serde_json.specs.View.{items_of}
use Rattle.serde_json.specs.Written.{has_float, items_have_float, members_have_float}
use Rattle.mr_shown.specs.declared.format.Format.{Format}
use Rattle.mr_text.specs.declared.item.Item.{Item}
use Rattle.mr_text.specs.declared.reply.Reply.{Reply}
use Rattle.mr_text.specs.declared.reply.Reply.TheVariants as reply
use Rattle.mr_text.specs.declared.request.Request.{Request}
use Rattle.mr_text.specs.declared.request.Request.TheVariants as request
use Rattle.mr_history.specs.declared.entry.Author.{Author}
use Rattle.mr_history.specs.declared.entry.Author.TheVariants.{Beginning, By}
use Rattle.mr_history.specs.declared.entry.Entry.{Entry}
use Rattle.mr_history.specs.declared.entry.Entry.TheVariants as entry
use Rattle.mr_world.specs.declared.note.Note.{Note}
use Rattle.mr_world.specs.declared.note.Note.TheVariants.{Nothing, Issued, Performed, Waiting, Answered, Stranger}
use Rattle.mr_world.specs.declared.premises.Premises.{Premises}
use Rattle.mr_shown.specs.Shown.{bytes_json, request_json, item_json, reply_json, author_json, entry_json, entries_json, note_json, notes_json, premises_json, verdict_json}
use Rattle.mr_transcripts.specs.Transcript.{with_outcome}
use Rattle.mr_shown.specs.declared.verdict.KeptVerdict.{KeptVerdict}
use Rattle.mr_shown.specs.declared.verdict.KeptVerdict.TheVariants.{Safe, Stale, Invented}

-- values that are shown each without one are shown together without one
listed : {X : Type 0} (show : X → Data) → ((x : X) → has_float (show x) ≡ false) → (xs : List X) → items_have_float (items_of (map show xs)) ≡ false
listed show whole [] = refl
listed show whole (x ∷ xs) = rw (whole x, listed show whole xs) refl

key_whole : (key : List ℕ) → has_float (bytes_json key) ≡ false
key_whole key = refl

number_whole : (z : ℤ) → is_float (of_integer z) ≡ false
number_whole (pos n) = refl
number_whole (negsuc n) = refl

request_whole : (format : Format) (r : Request) → has_float (request_json format r) ≡ false
request_whole format (request.Get keys) = rw (listed bytes_json key_whole keys) refl
request_whole format (request.Set key flags exptime block noreply) = rw (number_whole exptime) refl
request_whole format (request.Delete key noreply) = refl
request_whole format request.Quit = refl

item_whole : (format : Format) (i : Item) → has_float (item_json format i) ≡ false
item_whole format i = refl

reply_whole : (format : Format) (r : Reply) → has_float (reply_json format r) ≡ false
reply_whole format (reply.Items items) = rw (listed (item_json format) (item_whole format) items) refl
reply_whole format reply.Stored = refl
reply_whole format reply.Deleted = refl
reply_whole format reply.NotFound = refl
reply_whole format (reply.ServerError cause) = refl
reply_whole format (reply.ClientError cause) = refl
reply_whole format reply.Error = refl

author_whole : (by : Author) → has_float (author_json by) ≡ false
author_whole Beginning = refl
author_whole (By op) = refl

entry_whole : (format : Format) (e : Entry) → has_float (entry_json format e) ≡ false
entry_whole format (entry.Issued op proxy request) = rw (request_whole format request) refl
entry_whole format (entry.Stored by key flags block) = rw (author_whole by) refl
entry_whole format (entry.Removed op side key) = refl
entry_whole format (entry.Answered op reply) = rw (reply_whole format reply) refl

note_whole : (n : Note) → has_float (note_json n) ≡ false
note_whole Nothing = refl
note_whole (Issued op first count) = refl
note_whole (Performed reply) = refl
note_whole Waiting = refl
note_whole (Answered op) = refl
note_whole Stranger = refl

verdict_whole : (v : KeptVerdict) → has_float (verdict_json v) ≡ false
verdict_whole Safe = refl
verdict_whole (Stale get key delete) = refl
verdict_whole (Invented get key) = refl

second : (a b : Bool) → (a || b) ≡ false → b ≡ false
second true b e = absurd (search (rules, e))
second false b e = e

first : (a b : Bool) → (a || b) ≡ false → a ≡ false
first true b e = e
first false b e = refl

-- whichever is chosen has none
chosen : (o : Ordering) (a b c : Members) → members_have_float a ≡ false → members_have_float b ≡ false → members_have_float c ≡ false
    → members_have_float (match_ordering o a b c) ≡ false
chosen Less a b c x y z = x
chosen Equal a b c x y z = y
chosen Greater a b c x y z = z

-- a member that goes in brings none
put_whole : (key : List ℕ) (value : Data) (members : Members) → has_float value ≡ false → members_have_float members ≡ false
    → members_have_float (put key value members) ≡ false
put_whole key value no_members v m = rw v refl
put_whole key value (member other held members) v m =
    let rest = put_whole key value members v (second (has_float held) (members_have_float members) m) in
    let here = first (has_float held) (members_have_float members) m in
    let after = second (has_float held) (members_have_float members) m in
    chosen (slice_cmp nat_cmp key other) (member key value (member other held members)) (member other value members) (member other held (put key value members))
    (rw (v, here, after) refl) (rw (v, after) refl) (rw (here, rest) refl)

pub outcome_has_no_float : (format : Format) (script : Data) (notes : List Note) (history : List Entry) (premises : Premises) (verdict : KeptVerdict)
    → has_float script ≡ false → has_float (with_outcome format script notes history premises verdict) ≡ false
outcome_has_no_float format null notes history premises verdict e = e
outcome_has_no_float format (boolean b) notes history premises verdict e = e
outcome_has_no_float format (number n) notes history premises verdict e = e
outcome_has_no_float format (string s) notes history premises verdict e = e
outcome_has_no_float format (array ds) notes history premises verdict e = e
outcome_has_no_float format (object members) notes history premises verdict e =
    let with_history : Members = put (codes "history") (array (entries_json format history)) members in
    let with_notes : Members = put (codes "notes") (array (notes_json notes)) with_history in
    let with_premises : Members = put (codes "premises") (premises_json premises) with_notes in
    put_whole (codes "verdict") (verdict_json verdict) with_premises (verdict_whole verdict)
    (put_whole (codes "premises") (premises_json premises) with_notes refl
    (put_whole (codes "notes") (array (notes_json notes)) with_history (listed note_json note_whole notes)
    (put_whole (codes "history") (array (entries_json format history)) members (listed (entry_json format) (entry_whole format) history) e)))
