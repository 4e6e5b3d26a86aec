-- A request that was looked at whole, and is yet to be made.
use Rattle.std.specs.Prelude.{◌≡◌, map, Ok}
use Rattle.std.specs.Str.{chars}
use Rattle.serde_json.specs.View.{view}
use Rattle.mr_text.specs.declared.request.Request.{Request}
use Rattle.mr_text.specs.declared.request.Request.TheVariants as request
use Rattle.mr_scripts.specs.BlockDraft.{block_drafted, IsBlockReady}
use Rattle.mr_scripts.specs.Requests.{keys_in, keys_of}
use Rattle.mr_scripts.specs.Texts.{key_of_text}
use Rattle.mr_scripts.specs.declared.requests.RequestDraft.{RequestDraft}
use Rattle.mr_scripts.specs.declared.requests.RequestDraft.TheVariants.{Get, Set, Delete}

-- the request that it becomes
abbrev pub request_drafted : RequestDraft → Request
request_drafted (Get keys) = request.Get (keys_in (map view keys.now))
request_drafted (Set key flags exptime block noreply) = request.Set (chars key.now) flags exptime (block_drafted block) noreply
request_drafted (Delete key noreply) = request.Delete (chars key.now) noreply

-- nothing but want of memory keeps it from being made
abbrev pub IsRequestReady : RequestDraft → Type 0
IsRequestReady (Get keys) = keys_of (map view keys.now) ≡ Ok (keys_in (map view keys.now))
IsRequestReady (Set key flags exptime block noreply) = (key_of_text key.now ≡ Ok (chars key.now)) × IsBlockReady block
IsRequestReady (Delete key noreply) = key_of_text key.now ≡ Ok (chars key.now)
