-- What happened, as JSON.
use Rattle.std.specs.Prelude.{ℕ, List, map, codes}
use Rattle.std.specs.Str.{encode_utf8_all}
use Rattle.serde_json.specs.Data.{Data, boolean, number, string, array, object, unsigned, Items, no_items, item, no_members, member}
use Rattle.serde_json.specs.Find.{of_integer}
use Rattle.serde_json.specs.View.{items_of}
use Rattle.mr_shown.specs.Data.{shown_data}
use Rattle.mr_shown.specs.declared.format.Format.{Format}
use Rattle.mr_text.specs.CauseText.{text_of_cause}
use Rattle.mr_text.specs.declared.item.Item.{Item}
use Rattle.mr_text.specs.declared.reply.Reply.{Reply}
use Rattle.mr_text.specs.declared.reply.Reply.TheVariants as reply
use Rattle.mr_text.specs.declared.request.Request.{Request}
use Rattle.mr_text.specs.declared.request.Request.TheVariants as request
use Rattle.mr_phases.specs.SideText.{side_text}
use Rattle.mr_history.specs.declared.entry.Author.{Author}
use Rattle.mr_history.specs.declared.entry.Author.TheVariants.{Beginning, By}
use Rattle.mr_history.specs.declared.entry.Entry.{Entry}
use Rattle.mr_history.specs.declared.entry.Entry.TheVariants as entry
use Rattle.mr_history.specs.declared.op_id.OpId.{OpId}
use Rattle.mr_world.specs.declared.note.Note.{Note}
use Rattle.mr_world.specs.declared.note.Note.TheVariants.{Nothing, Issued, Performed, Waiting, Answered, Stranger}
use Rattle.mr_world.specs.declared.premises.Premises.{Premises}
use Rattle.mr_shown.specs.declared.verdict.KeptVerdict.{KeptVerdict}
use Rattle.mr_shown.specs.declared.verdict.KeptVerdict.TheVariants.{Safe, Stale, Invented}

-- bytes as a text of which each character is one byte, its code point being the byte
abbrev pub bytes_json : List ℕ → Data
bytes_json bytes = string (encode_utf8_all bytes)

-- data as its text in a format
abbrev pub data_json : Format → List ℕ → Data
data_json format bytes = string (encode_utf8_all (shown_data format bytes))

-- a whole number
abbrev pub number_json : ℕ → Data
number_json n = number (unsigned n)

-- the name of a request: proxy, incarnation and number
abbrev pub op_json : OpId → Data
op_json op = array (item (number_json op.proxy) (item (number_json op.incarnation) (item (number_json op.number) no_items)))

-- keys, in order
abbrev pub keys_json : List (List ℕ) → Items
keys_json keys = items_of (map bytes_json keys)

-- a request
abbrev pub request_json : Format → Request → Data
request_json format (request.Get keys) = object (member (codes "keys") (array (keys_json keys)) (member (codes "kind") (string (codes "get")) no_members))
request_json format (request.Set key flags exptime block noreply) =
    object
    (member (codes "data") (data_json format block)
    (member (codes "exptime") (number (of_integer exptime))
    (member (codes "flags") (number_json flags)
    (member (codes "key") (bytes_json key)
    (member (codes "kind") (string (codes "set"))
    (member (codes "noreply") (boolean noreply) no_members))))))
request_json format (request.Delete key noreply) =
    object (member (codes "key") (bytes_json key) (member (codes "kind") (string (codes "delete")) (member (codes "noreply") (boolean noreply) no_members)))
request_json format request.Quit = object (member (codes "kind") (string (codes "quit")) no_members)

-- an item with its key, flags and data
abbrev pub item_json : Format → Item → Data
item_json format i = object (member (codes "data") (data_json format i.block) (member (codes "flags") (number_json i.flags) (member (codes "key") (bytes_json i.key) no_members)))

-- the items of an answer, in order
abbrev pub items_json : Format → List Item → Items
items_json format items = items_of (map (item_json format) items)

-- a proxy's answer is one of the first four or a server's error
abbrev pub reply_json : Format → Reply → Data
reply_json format (reply.Items items) = object (member (codes "items") (array (items_json format items)) no_members)
reply_json format reply.Stored = string (codes "stored")
reply_json format reply.Deleted = string (codes "deleted")
reply_json format reply.NotFound = string (codes "not_found")
reply_json format (reply.ServerError cause) = object (member (codes "server_error") (bytes_json (text_of_cause cause)) no_members)
reply_json format (reply.ClientError cause) = object (member (codes "client_error") (bytes_json (text_of_cause cause)) no_members)
reply_json format reply.Error = string (codes "error")

-- who stored an item
abbrev pub author_json : Author → Data
author_json Beginning = string (codes "beginning")
author_json (By op) = op_json op

-- an entry of a history
abbrev pub entry_json : Format → Entry → Data
entry_json format (entry.Issued op proxy request) =
    object
    (member (codes "entry") (string (codes "issued"))
    (member (codes "op") (op_json op) (member (codes "proxy") (number_json proxy) (member (codes "request") (request_json format request) no_members))))
entry_json format (entry.Stored by key flags block) =
    object
    (member (codes "by") (author_json by)
    (member (codes "data") (data_json format block)
    (member (codes "entry") (string (codes "stored")) (member (codes "flags") (number_json flags) (member (codes "key") (bytes_json key) no_members)))))
entry_json format (entry.Removed op side key) =
    object
    (member (codes "entry") (string (codes "removed"))
    (member (codes "key") (bytes_json key) (member (codes "op") (op_json op) (member (codes "side") (string (side_text side)) no_members))))
entry_json format (entry.Answered op reply) =
    object (member (codes "entry") (string (codes "answered")) (member (codes "op") (op_json op) (member (codes "reply") (reply_json format reply) no_members)))

-- the entries of a history, in order
abbrev pub entries_json : Format → List Entry → Items
entries_json format entries = items_of (map (entry_json format) entries)

-- what is told of an accepted event
abbrev pub note_json : Note → Data
note_json Nothing = string (codes "nothing")
note_json (Issued op first count) =
    object (member (codes "issued") (op_json op) (member (codes "messages") (array (item (number_json first) (item (number_json count) no_items))) no_members))
note_json (Performed reply) = object (member (codes "performed") (number_json reply) no_members)
note_json Waiting = string (codes "waiting")
note_json (Answered op) = object (member (codes "answered") (op_json op) no_members)
note_json Stranger = string (codes "stranger")

-- what is told of accepted events, in order
abbrev pub notes_json : List Note → Items
notes_json notes = items_of (map note_json notes)

-- which premises hold
abbrev pub premises_json : Premises → Data
premises_json p =
    object
    (member (codes "forward") (boolean p.forward)
    (member (codes "near") (boolean p.near) (member (codes "new_empty") (boolean p.new_empty) (member (codes "same") (boolean p.same) no_members))))

-- what a judge says of a history
abbrev pub verdict_json : KeptVerdict → Data
verdict_json Safe = string (codes "safe")
verdict_json (Stale get key delete) =
    object
    (member (codes "stale") (object (member (codes "delete") (op_json delete) (member (codes "get") (op_json get) (member (codes "key") (bytes_json key) no_members)))) no_members)
verdict_json (Invented get key) =
    object (member (codes "invented") (object (member (codes "get") (op_json get) (member (codes "key") (bytes_json key) no_members))) no_members)
