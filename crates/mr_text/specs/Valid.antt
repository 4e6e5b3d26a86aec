-- What the types promise of every request and every reply.
use Rattle.std.specs.Prelude.{ℕ, ◌^◌, ◌<◌, ◌≤◌, List, length, All, ℤ}
use Rattle.mr_text.specs.Block.{IsBlock}
use Rattle.mr_text.specs.Commands.{IsExptime}
use Rattle.mr_text.specs.Key.{IsKey, HasKey, FitLine}
use Rattle.mr_text.specs.Line.{IsErrorText}
use Rattle.mr_text.specs.declared.cause.Cause.{Cause}
use Rattle.mr_text.specs.declared.cause.Cause.TheVariants.{Other}
use Rattle.mr_text.specs.declared.item.Item.{Item}
use Rattle.mr_text.specs.Limits.{MAX_ITEMS}
use Rattle.mr_text.specs.declared.reply.Reply.{Reply}
use Rattle.mr_text.specs.declared.reply.Reply.TheVariants.{Items, Stored, Deleted, NotFound, Error, ClientError, ServerError}
use Rattle.mr_text.specs.declared.request.Request.{Request}
use Rattle.mr_text.specs.declared.request.Request.TheVariants.{Get, Set, Delete, Quit}

-- the keys of a get: keys, at least one, that fit a line
pub record IsValidGet (keys : List (List ℕ)) : Type 0 where
  pub some : HasKey keys
  pub fit : FitLine keys
  pub are_keys : All IsKey keys

-- the flags fit their field
abbrev pub IsFlags : ℕ → Type 0
IsFlags flags = flags < 2 ^ 32

-- the parts of a set
pub record IsValidSet (key : List ℕ) (flags : ℕ) (exptime : ℤ) (block : List ℕ) : Type 0 where
  pub is_key : IsKey key
  pub flags_fit : IsFlags flags
  pub exptime_fits : IsExptime exptime
  pub is_block : IsBlock block

-- what every request is
abbrev pub IsValidRequest : Request → Type 0
IsValidRequest (Get keys) = IsValidGet keys
IsValidRequest (Set key flags exptime block noreply) = IsValidSet key flags exptime block
IsValidRequest (Delete key noreply) = IsKey key
IsValidRequest Quit = Unit {0}

-- what every item is
pub record IsValidItem (item : Item) : Type 0 where
  pub is_key : IsKey item.key
  pub flags_fit : IsFlags item.flags
  pub is_block : IsBlock item.block

-- the items of a reply: no more than it may have
pub record AreValidItems (items : List Item) : Type 0 where
  pub each : All IsValidItem items
  pub not_many : length items ≤ MAX_ITEMS

-- a named cause, or a text that is no named cause's
abbrev pub IsValidCause : Cause → Type 0
IsValidCause (Other text) = IsErrorText text
IsValidCause named = Unit {0}

-- what every reply is
abbrev pub IsValidReply : Reply → Type 0
IsValidReply (Items items) = AreValidItems items
IsValidReply Stored = Unit {0}
IsValidReply Deleted = Unit {0}
IsValidReply NotFound = Unit {0}
IsValidReply Error = Unit {0}
IsValidReply (ClientError cause) = IsValidCause cause
IsValidReply (ServerError cause) = IsValidCause cause
