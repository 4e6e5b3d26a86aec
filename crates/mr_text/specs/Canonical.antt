-- The one spelling of a request or a reply that writers give.
use Rattle.std.specs.Prelude.{ℕ, List, [], ◌∷◌, ◌++◌, Bool, true, false, ℤ, codes, length, flat_map, decimal}
use Rattle.std.specs.Fmt.{signed_decimal}
use Rattle.mr_text.specs.CauseText.{text_of_cause}
use Rattle.mr_text.specs.declared.cause.Cause.{Cause}
use Rattle.mr_text.specs.declared.item.Item.{Item}
use Rattle.mr_text.specs.declared.reply.Reply.{Reply}
use Rattle.mr_text.specs.declared.reply.Reply.TheVariants.{Items, Stored, Deleted, NotFound, Error, ClientError, ServerError}
use Rattle.mr_text.specs.declared.request.Request.{Request}
use Rattle.mr_text.specs.declared.request.Request.TheVariants.{Get, Set, Delete, Quit}

-- what ends a line, and what stands behind a block
abbrev pub line_end : List ℕ
line_end = 13 ∷ 10 ∷ []

-- a word that isn't the first
abbrev pub spaced : List ℕ → List ℕ
spaced word = 32 ∷ word

-- the word `noreply` behind its space, where the request has it
abbrev pub noreply_text : Bool → List ℕ
noreply_text true = codes " noreply"
noreply_text false = []

-- the line before the block of a set, with its end
abbrev pub set_line_text : List ℕ → ℕ → ℤ → ℕ → Bool → List ℕ
set_line_text key flags exptime block_length noreply =
    codes "set" ++ spaced key ++ spaced (decimal flags) ++ spaced (signed_decimal exptime) ++ spaced (decimal block_length) ++ noreply_text noreply ++ line_end

-- the spelling of a request: words joined by one space, numbers without leading zeros, no word 0
abbrev pub canonical_request : Request → List ℕ
canonical_request (Get keys) = codes "get" ++ flat_map spaced keys ++ line_end
canonical_request (Set key flags exptime block noreply) = set_line_text key flags exptime (length block) noreply ++ block ++ line_end
canonical_request (Delete key noreply) = codes "delete" ++ spaced key ++ noreply_text noreply ++ line_end
canonical_request Quit = codes "quit" ++ line_end

-- the line before the block of an item, with its end
abbrev pub value_line_text : List ℕ → ℕ → ℕ → List ℕ
value_line_text key flags block_length = codes "VALUE" ++ spaced key ++ spaced (decimal flags) ++ spaced (decimal block_length) ++ line_end

-- an item: its line, its block, and the end of line behind that
abbrev pub item_text : Item → List ℕ
item_text item = value_line_text item.key item.flags (length item.block) ++ item.block ++ line_end

-- the items, one behind the other
abbrev pub items_text : List Item → List ℕ
items_text items = flat_map item_text items

-- the line of an error: its word with a space, and the text of its cause
abbrev pub error_text : List ℕ → Cause → List ℕ
error_text word cause = word ++ text_of_cause cause ++ line_end

-- the spelling of a reply: an error's word is followed by its space also where the text is empty
abbrev pub canonical_reply : Reply → List ℕ
canonical_reply (Items items) = items_text items ++ codes "END" ++ line_end
canonical_reply Stored = codes "STORED" ++ line_end
canonical_reply Deleted = codes "DELETED" ++ line_end
canonical_reply NotFound = codes "NOT_FOUND" ++ line_end
canonical_reply Error = codes "ERROR" ++ line_end
canonical_reply (ClientError cause) = error_text (codes "CLIENT_ERROR ") cause
canonical_reply (ServerError cause) = error_text (codes "SERVER_ERROR ") cause
