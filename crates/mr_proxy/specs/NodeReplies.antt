-- What a node's reply says of a leg.
use Rattle.std.specs.Prelude.{◌≡◌, ℕ, List, [], ◌∷◌, map, Option, Some, None, if◌then◌else◌}
use Rattle.std.specs.Option.{option_map}
use Rattle.std.specs.Str.{bytes_eq}
use Rattle.mr_text.specs.declared.cause.Cause.{Cause}
use Rattle.mr_text.specs.declared.cause.Cause.TheVariants.{NodeRefused}
use Rattle.mr_text.specs.declared.item.Item.{Item}
use Rattle.mr_text.specs.declared.reply.Reply.{Reply}
use Rattle.mr_text.specs.declared.reply.Reply.TheVariants as reply
use Rattle.mr_join.specs.declared.leg_reply.LegReply.{LegReply}
use Rattle.mr_join.specs.declared.leg_reply.LegReply.TheVariants.{Hit, Miss, Stored, Deleted, NotFound, Failed}
use Rattle.mr_node.specs.declared.command.NodeCommand.{NodeCommand}
use Rattle.mr_node.specs.declared.command.NodeCommand.TheVariants.{Get, Set, Delete}

-- what a get of this key found: no item, or one of this key
abbrev pub FindsItemOf : List ℕ → List Item → LegReply → Type 0
FindsItemOf key [] leg = leg ≡ Miss
FindsItemOf key (item ∷ []) leg = (item.key ≡ key) × (leg ≡ Hit item.flags item.block)
FindsItemOf key (item ∷ other ∷ items) leg = ⊥

-- The reply answers the command, and says this of its leg. Any command may fail; otherwise each has replies of its own.
abbrev pub IsAnswer : NodeCommand → Reply → LegReply → Type 0
IsAnswer command (reply.ServerError cause) leg = leg ≡ Failed cause
IsAnswer command (reply.ClientError cause) leg = leg ≡ Failed cause
IsAnswer command reply.Error leg = leg ≡ Failed NodeRefused
IsAnswer (Get key) (reply.Items items) leg = FindsItemOf key items leg
IsAnswer (Set key flags exptime block) reply.Stored leg = leg ≡ Stored
IsAnswer (Delete key) reply.Deleted leg = leg ≡ Deleted
IsAnswer (Delete key) reply.NotFound leg = leg ≡ NotFound
IsAnswer command other leg = ⊥

-- what a get's leg is told of an item
abbrev pub hit : Item → LegReply
hit item = Hit item.flags item.block

-- What items say of gets of these keys, in their order: each item is that of the first key that it has behind those of the items before
-- it, and a key of no item is a miss. None where an item is of no such key.
abbrev pub dealt : List (List ℕ) → List Item → Option (List LegReply)
dealt [] [] = Some []
dealt [] (item ∷ items) = None
dealt (key ∷ keys) [] = option_map (λ said. Miss ∷ said) (dealt keys [])
dealt (key ∷ keys) (item ∷ items) =
    if bytes_eq item.key key then option_map (λ said. hit item ∷ said) (dealt keys items)
    else option_map (λ said. Miss ∷ said) (dealt keys (item ∷ items))

-- the first of these gets fails with a cause, and the others since the node refused them
abbrev pub all_failed : Cause → List (List ℕ) → List LegReply
all_failed cause [] = []
all_failed cause (key ∷ keys) = Failed cause ∷ map (λ _. Failed NodeRefused) keys

-- the reply answers a get of these keys, and says this of the legs of which it is made
abbrev pub AnswersGets : List (List ℕ) → Reply → List LegReply → Type 0
AnswersGets keys (reply.Items items) said = dealt keys items ≡ Some said
AnswersGets keys (reply.ServerError cause) said = said ≡ all_failed cause keys
AnswersGets keys (reply.ClientError cause) said = said ≡ all_failed cause keys
AnswersGets keys reply.Error said = said ≡ all_failed NodeRefused keys
AnswersGets keys other said = ⊥
