-- What a node does for the request of a leg, and what it says of it.
use Rattle.std.proofs.Common.{◌≡◌, ◌≢◌, ℕ, ◌+◌, ◌*◌, ◌≤◌, ◌⊎◌, inl, inr, Bool, true, false, List, [], ◌∷◌, ◌++◌, All, length, map, sum_by, Option, Some, None, is_some, refl, sym, ap, ◌∙◌, subst, cond, arith}
use Rattle.std.specs.List.{AllByRecursion}
use Rattle.std.proofs.lemmas.List.{append-nil}
use Rattle.std.proofs.lemmas.List.Sums.{sum_by-cons}
use Rattle.std.specs.Option.{option_to_list}
use Rattle.std.proofs.lemmas.List.Elements.{All-head, All-cons, All-nil, recursion_from_All}
use Rattle.std.specs.Prelude.{ℤ}
use Rattle.mr_text.specs.Block.{IsBlock}
use Rattle.mr_text.specs.Key.{IsKey}
use Rattle.mr_text.specs.Valid.{IsValidRequest, IsValidReply, IsValidItem, IsFlags}
use Rattle.mr_text.specs.declared.cause.Cause.{Cause}
use Rattle.mr_text.specs.declared.cause.Cause.TheVariants.{OutOfMemory}
use Rattle.mr_text.specs.declared.item.Item.{Item}
use Rattle.mr_text.specs.declared.reply.Reply.{Reply}
use Rattle.mr_text.specs.declared.reply.Reply.TheVariants.{Items, Stored, Deleted, NotFound, ServerError}
use Rattle.mr_join.specs.declared.leg_reply.LegReply.{LegReply}
use Rattle.mr_join.specs.declared.leg_reply.LegReply.TheVariants as leg
use Rattle.mr_node.specs.Items.{NamedItem}
use Rattle.mr_node.specs.Outcome.{Gets, LooksUp, StopsAtKey, IsAnswerOf}
use Rattle.mr_node.specs.Recency.{CacheView, RecencyStep, live_item, hit_or_miss}
use Rattle.mr_node.specs.declared.command.NodeCommand.{NodeCommand}
use Rattle.mr_node.specs.declared.command.NodeCommand.TheVariants.{Get, Set, Delete}
use Rattle.mr_proxy.specs.NodeReplies.{IsAnswer}
use Rattle.mr_node.specs.Command.{key_of_command}
use Rattle.mr_proxy.specs.NodeRequests.{key_of, request_for, request_with}
use Rattle.mr_proxy.specs.declared.sheet.LegSheet.{LegSheet}
use Rattle.mr_loop.specs.Links.{is_get}
use Rattle.mr_loop.specs.Returning.{Answers}
use Rattle.mr_loop.specs.node.Serving.{IsTold}
use Rattle.mr_text.specs.declared.request.Request.TheVariants as request
use Rattle.mr_streams.specs.Flows.{AreGets, IsError}
use Rattle.mr_streams.specs.Kept.{IsTellable, AreTellable}
use Rattle.mr_streams.specs.StreamsView.{node_does}
use Rattle.mr_streams.proofs.Caches.{live_kept, step_kept}
use Rattle.mr_streams.proofs.Together.{AllGets, GetsAll, PerformsAll, gets_all, gets_perform}

-- A node did what the command says, and says what that came to; it looked an item up, and says that it failed for want of memory to
-- tell of it; or it did nothing, and says that it failed.
pub data Performs (old : CacheView) (now : ℕ) (command : NodeCommand) (told : Reply) (new : CacheView) : Type 0 where
  did : (said : LegReply) → RecencyStep old now command said new → IsAnswer command told said → (IsError told → ⊥) → Performs old now command told new
  looked : (key : List ℕ) (said : LegReply) → command ≡ Get key → RecencyStep old now command said new → IsError told → Performs old now command told new
  failed : new ≡ old → IsError told → Performs old now command told new

-- and what it says has a text, and what it holds then can be told of
pub record IsPerformed (old : CacheView) (now : ℕ) (command : NodeCommand) (told : Reply) (new : CacheView) : Type 0 where
  pub performs : Performs old now command told new
  pub valid : IsValidReply told
  pub kept : AreTellable new.items

snoc_some : {X : Type 0} (xs : List X) (x : X) → xs ++ x ∷ [] ≢ []
snoc_some [] x e = cc
snoc_some (y ∷ xs) x e = cc

snoc_one : {X : Type 0} (xs : List X) (x y : X) → xs ++ x ∷ [] ≡ y ∷ [] → (xs ≡ []) × (x ≡ y)
snoc_one [] x y e = (refl, cc)
snoc_one (z ∷ xs) x y e = absurd (let no : xs ++ x ∷ [] ≡ [] = cc in snoc_some xs x no)

gets_none : (now : ℕ) (old new : CacheView) (keys : List (List ℕ)) (items : List Item) → Gets RecencyStep now old keys items new → keys ≡ [] → (new ≡ old) × (items ≡ [])
gets_none now old new keys items Gets.begins e = (refl, refl)
gets_none now old new keys items (Gets.looks {keys = before} key found gets looks) e = absurd (snoc_some before key e)

-- a get of one key
record GetsOne (now : ℕ) (old new : CacheView) (key : List ℕ) (items : List Item) : Type 0 where
  found : Option Item
  looks : LooksUp RecencyStep old now key found new
  is : items ≡ option_to_list found

gets_one : (now : ℕ) (old new : CacheView) (keys : List (List ℕ)) (items : List Item) (key : List ℕ) → Gets RecencyStep now old keys items new → keys ≡ key ∷ []
    → GetsOne now old new key items
gets_one now old new keys items key Gets.begins e = absurd (let no : [] ≡ key ∷ [] = e in cc)
gets_one now old new keys items key (Gets.looks {between = between} {keys = before} {items = others} own found gets looks) e =
    let split = snoc_one before own key e in
    let none = gets_none now old between before others gets split.0 in
    record {
      found = found;
      looks = subst (λ c. LooksUp RecencyStep c now key found new) none.0 (subst (λ k. LooksUp RecencyStep between now k found new) split.1 looks);
      is = ap (λ x. x ++ option_to_list found) none.1;
    }

never_fails : (now : ℕ) (key : List ℕ) (items : List NamedItem) (o : Option NamedItem) (cause : Cause) → leg.Failed cause ≢ hit_or_miss o
never_fails now key items None cause e = cc
never_fails now key items (Some named) cause e = cc

tells_hit : (now : ℕ) (key : List ℕ) (items : List NamedItem) (o : Option NamedItem) (flags : ℕ) (block : List ℕ)
    → leg.Hit flags block ≡ hit_or_miss o → (named : NamedItem) × (o ≡ Some named) × (flags ≡ named.1.flags) × (block ≡ named.1.block)
tells_hit now key items None flags block e = absurd (let no : leg.Hit flags block ≡ leg.Miss = e in cc)
tells_hit now key items (Some named) flags block e = (named, refl, cc, cc)

no_memory : (old new : CacheView) (now : ℕ) (command : NodeCommand) (told : Reply) → new ≡ old → AreTellable old.items → told ≡ ServerError OutOfMemory
    → IsPerformed old now command told new
no_memory old new now command told same all e =
    subst (λ t. IsPerformed old now command t new) (sym e)
    (record { performs = Performs.failed same tt; valid = tt; kept = subst (λ c. AreTellable c.items) (sym same) all })

found_valid : (old new : CacheView) (now : ℕ) (key : List ℕ) (item : Item) → IsValidRequest (request_for (Get key)) → AreTellable old.items
    → RecencyStep old now (Get key) (leg.Hit item.flags item.block) new → item.key ≡ key → IsValidItem item
found_valid old new now key item valid all step own =
    let hit = tells_hit now key old.items (live_item now key old.items) item.flags item.block step.answers in
    let kept : IsTellable hit.0 = live_kept now key old.items hit.0 all hit.1 in
    record {
      is_key = subst IsKey (sym own) (All-head IsKey key [] valid.are_keys);
      flags_fit = subst IsFlags (sym hit.2) kept.0;
      is_block = subst IsBlock (sym hit.3) kept.1;
    }

-- a get of one key that found this
get_performed : (old new : CacheView) (now : ℕ) (key : List ℕ) (found : Option Item) (told : Reply) → IsValidRequest (request_for (Get key)) → AreTellable old.items
    → LooksUp RecencyStep old now key found new → (told ≡ Items (option_to_list found)) ⊎ (told ≡ ServerError OutOfMemory) → IsPerformed old now (Get key) told new
get_performed old new now key None told valid all looks is =
    elim is [
      | inl items ↦ subst (λ t. IsPerformed old now (Get key) t new) (sym items)
          (record {
            performs = Performs.did leg.Miss looks refl (λ e. e);
            valid = record { each = All-nil IsValidItem; not_many = omega arith };
            kept = step_kept old new now (Get key) leg.Miss valid all looks;
          })
      | inr lost ↦ subst (λ t. IsPerformed old now (Get key) t new) (sym lost)
          (record {
            performs = Performs.looked key leg.Miss refl looks tt;
            valid = tt;
            kept = step_kept old new now (Get key) leg.Miss valid all looks;
          })
    ]
get_performed old new now key (Some item) told valid all looks is =
    let hit : LegReply = leg.Hit item.flags item.block in
    elim is [
      | inl items ↦ subst (λ t. IsPerformed old now (Get key) t new) (sym items)
          (record {
            performs = Performs.did hit looks.0 (looks.1, refl) (λ e. e);
            valid = record { each = All-cons IsValidItem item [] (found_valid old new now key item valid all looks.0 looks.1) (All-nil IsValidItem); not_many = omega arith };
            kept = step_kept old new now (Get key) hit valid all looks.0;
          })
      | inr lost ↦ subst (λ t. IsPerformed old now (Get key) t new) (sym lost)
          (record {
            performs = Performs.looked key hit refl looks.0 tt;
            valid = tt;
            kept = step_kept old new now (Get key) hit valid all looks.0;
          })
    ]

no_middle : {X : Type 0} (done later : List X) (y : X) → [] ≢ done ++ (y ∷ later)
no_middle [] later y e = cc
no_middle (z ∷ done) later y e = cc

append_first : {X : Type 0} (done later : List X) (x y : X) → x ∷ [] ≡ done ++ (y ∷ later) → done ≡ []
append_first [] later x y e = refl
append_first (z ∷ done) later x y e = absurd (let no : [] ≡ done ++ (y ∷ later) = cc in no_middle done later y no)

-- a get of one key that stopped did nothing, and says that memory was refused
stopped : (old new : CacheView) (now : ℕ) (key : List ℕ) (cause : Cause) → StopsAtKey RecencyStep (λ a _ _ b. b ≡ a) old now (key ∷ []) cause new
    → (new ≡ old) × (cause ≡ OutOfMemory)
stopped old new now key cause s =
    let first = append_first s.done s.later key s.key s.splits in
    let none = gets_none now old s.between s.done s.found s.gets first in
    elim s.fails [
      | inl fault ↦ absurd (never_fails now s.key s.between.items (live_item now s.key s.between.items) cause fault.answers)
      | inr lost ↦ (elim lost.1 [ inl same ↦ same ∙ none.0 | inr same ↦ same ∙ none.0 ], lost.0)
    ]

told_items : (outcome told : Reply) (items : List Item) → outcome ≡ Items items → IsTold outcome told → (told ≡ Items items) ⊎ (told ≡ ServerError OutOfMemory)
told_items outcome told items e h = subst (λ o. IsTold o told) e h

told_error : (outcome told : Reply) (cause : Cause) → outcome ≡ ServerError cause → IsTold outcome told → told ≡ ServerError cause
told_error outcome told cause e h = subst (λ o. IsTold o told) e h

get_told : (old new : CacheView) (now : ℕ) (key : List ℕ) (outcome told : Reply) → IsValidRequest (request_for (Get key)) → AreTellable old.items
    → node_does old now (request_for (Get key)) outcome new → IsTold outcome told → IsPerformed old now (Get key) told new
get_told old new now key outcome told valid all does is =
    elim does [
      | inl found ↦ (
          let one = gets_one now old new (key ∷ []) found.0 key found.1 refl in
          get_performed old new now key one.found told valid all one.looks
          (told_items outcome told (option_to_list one.found) (found.2 ∙ ap (λ x. Items x) one.is) is))
      | inr lost ↦ (
          let none = stopped old new now key lost.0 lost.1 in
          no_memory old new now (Get key) told none.0 all (told_error outcome told OutOfMemory (lost.2 ∙ ap (λ c. ServerError c) none.1) is))
    ]

answers_stored : (outcome : Reply) (said : LegReply) → said ≡ leg.Stored → IsAnswerOf said outcome → outcome ≡ Stored
answers_stored outcome said e h = subst (λ r. IsAnswerOf r outcome) e h

set_told : (old new : CacheView) (now : ℕ) (key : List ℕ) (flags : ℕ) (exptime : ℤ) (block : List ℕ) (outcome told : Reply)
    → IsValidRequest (request_for (Set key flags exptime block)) → AreTellable old.items
    → node_does old now (request_for (Set key flags exptime block)) outcome new → IsTold outcome told → IsPerformed old now (Set key flags exptime block) told new
set_told old new now key flags exptime block outcome told valid all does is =
    let command : NodeCommand = Set key flags exptime block in
    elim does [
      | inl done ↦ (
          let stored : outcome ≡ Stored = answers_stored outcome done.0 done.1.answers done.2 in
          let tells : told ≡ Stored = subst (λ o. IsTold o told) stored is in
          subst (λ t. IsPerformed old now command t new) (sym tells)
          (record { performs = Performs.did done.0 done.1 done.1.answers (λ e. e); valid = tt; kept = step_kept old new now command done.0 valid all done.1 }))
      | inr lost ↦ no_memory old new now command told lost.0 all (told_error outcome told OutOfMemory lost.1 is)
    ]

deleted_or_not : (old new : CacheView) (now : ℕ) (key : List ℕ) (b : Bool) (said : LegReply) (outcome told : Reply) → IsValidRequest (request_for (Delete key)) → AreTellable old.items
    → RecencyStep old now (Delete key) said new → said ≡ cond b leg.Deleted leg.NotFound → IsAnswerOf said outcome → IsTold outcome told → IsPerformed old now (Delete key) told new
deleted_or_not old new now key true said outcome told valid all step e answers is =
    let deleted : outcome ≡ Deleted = subst (λ r. IsAnswerOf r outcome) e answers in
    let tells : told ≡ Deleted = subst (λ o. IsTold o told) deleted is in
    subst (λ t. IsPerformed old now (Delete key) t new) (sym tells)
    (record { performs = Performs.did said step e (λ f. f); valid = tt; kept = step_kept old new now (Delete key) said valid all step })
deleted_or_not old new now key false said outcome told valid all step e answers is =
    let missing : outcome ≡ NotFound = subst (λ r. IsAnswerOf r outcome) e answers in
    let tells : told ≡ NotFound = subst (λ o. IsTold o told) missing is in
    subst (λ t. IsPerformed old now (Delete key) t new) (sym tells)
    (record { performs = Performs.did said step e (λ f. f); valid = tt; kept = step_kept old new now (Delete key) said valid all step })

delete_told : (old new : CacheView) (now : ℕ) (key : List ℕ) (outcome told : Reply) → IsValidRequest (request_for (Delete key)) → AreTellable old.items
    → node_does old now (request_for (Delete key)) outcome new → IsTold outcome told → IsPerformed old now (Delete key) told new
delete_told old new now key outcome told valid all does is =
    elim does [
      | inl done ↦ deleted_or_not old new now key (is_some (live_item now key old.items)) done.0 outcome told valid all done.1 done.1.answers done.2 is
      | inr lost ↦ no_memory old new now (Delete key) told lost.0 all (told_error outcome told OutOfMemory lost.1 is)
    ]

-- what a node does for the request of a leg
pub performed_for : (command : NodeCommand) (old new : CacheView) (now : ℕ) (outcome told : Reply) → IsValidRequest (request_for command) → AreTellable old.items
    → node_does old now (request_for command) outcome new → IsTold outcome told → IsPerformed old now command told new
performed_for (Get key) old new now outcome told valid all does is = get_told old new now key outcome told valid all does is
performed_for (Set key flags exptime block) old new now outcome told valid all does is = set_told old new now key flags exptime block outcome told valid all does is
performed_for (Delete key) old new now outcome told valid all does is = delete_told old new now key outcome told valid all does is

pub get_valid : (key : List ℕ) → IsKey key → IsValidRequest (request_for (Get key))
get_valid key is = record {
  some = omega arith;
  fit = (let short = is.not_long in omega arith);
  are_keys = All-cons IsKey key [] is (All-nil IsKey);
}

-- what gets of these keys find can be told of, and so can what is left
record FoundValid (keys : List (List ℕ)) (items : List Item) (new : CacheView) : Type 0 where
  each : All IsValidItem items
  few : length items ≤ length keys
  kept : AreTellable new.items

found_first : (old middle : CacheView) (now : ℕ) (key : List ℕ) (found : Option Item) (keys : List (List ℕ)) (rest : List Item) (new : CacheView) → IsKey key → AreTellable old.items
    → LooksUp RecencyStep old now key found middle → FoundValid keys rest new → FoundValid (key ∷ keys) (option_to_list found ++ rest) new
found_first old middle now key None keys rest new is all looks behind = record { each = behind.each; few = (let few = behind.few in omega arith); kept = behind.kept }
found_first old middle now key (Some item) keys rest new is all looks behind = record {
  each = All-cons IsValidItem item rest (found_valid old middle now key item (get_valid key is) all looks.0 looks.1) behind.each;
  few = (let few = behind.few in omega arith);
  kept = behind.kept;
}

looked_kept : (old middle : CacheView) (now : ℕ) (key : List ℕ) (found : Option Item) → IsKey key → AreTellable old.items → LooksUp RecencyStep old now key found middle → AreTellable middle.items
looked_kept old middle now key None is all looks = step_kept old middle now (Get key) leg.Miss (get_valid key is) all looks
looked_kept old middle now key (Some item) is all looks = step_kept old middle now (Get key) (leg.Hit item.flags item.block) (get_valid key is) all looks.0

found_all : (now : ℕ) (keys : List (List ℕ)) (old new : CacheView) (items : List Item) → AllByRecursion IsKey keys → AreTellable old.items → GetsAll now old keys items new
    → FoundValid keys items new
found_all now [] old new items are all gets = record {
  each = subst (λ l. All IsValidItem l) (sym gets.0) (All-nil IsValidItem);
  few = (let none = ap length gets.0 in omega (arith, none));
  kept = subst (λ (c : CacheView). AreTellable c.items) (sym gets.1) all;
}
found_all now (key ∷ keys) old new items are all gets =
    let behind = found_all now keys gets.1 new gets.2 are.1 (looked_kept old gets.1 now key gets.0 are.0 all gets.3) gets.5 in
    subst (λ l. FoundValid (key ∷ keys) l new) (sym gets.4) (found_first old gets.1 now key gets.0 keys gets.2 new are.0 all gets.3 behind)

-- A node did what legs that travelled together ask, and says what that came to; or it looked the keys of some first ones up, if any, and
-- says that all failed.
pub data PerformsSent (old : CacheView) (now : ℕ) (first : LegSheet) (others : List LegSheet) (told : Reply) (new : CacheView) : Type 0 where
  did : (said : List LegReply) → PerformsAll old now (first ∷ others) said new → Answers first others told said → (IsError told → ⊥) → PerformsSent old now first others told new
  fails : (done later : List LegSheet) (said : List LegReply) → first ∷ others ≡ done ++ later → AllGets done → PerformsAll old now done said new → IsError told
      → PerformsSent old now first others told new

-- and what it says has a text, and what it holds then can be told of
pub record SentPerformed (old : CacheView) (now : ℕ) (first : LegSheet) (others : List LegSheet) (told : Reply) (new : CacheView) : Type 0 where
  pub performs : PerformsSent old now first others told new
  pub valid : IsValidReply told
  pub kept : AreTellable new.items

-- a leg by itself
alone_performs : (old : CacheView) (now : ℕ) (sheet : LegSheet) (told : Reply) (new : CacheView) → Performs old now sheet.command told new → PerformsSent old now sheet [] told new
alone_performs old now sheet told new (Performs.did said step answers fine) = PerformsSent.did (said ∷ []) (new, step, (refl, refl)) (said, answers, refl) fine
alone_performs old now sheet told new (Performs.looked key said get step error) =
    PerformsSent.fails (sheet ∷ []) [] (said ∷ []) refl (ap is_get get, tt) (new, step, (refl, refl)) error
alone_performs old now sheet told new (Performs.failed same error) = PerformsSent.fails [] (sheet ∷ []) [] refl tt (refl, same) error

-- the first of some legs, whose keys these are
record SplitsBy (done : List (List ℕ)) (rest : List (List ℕ)) (sheets : List LegSheet) : Type 0 where
  first : List LegSheet
  later : List LegSheet
  splits : sheets ≡ first ++ later
  keys : map key_of first ≡ done
  gets : AllGets first

split_by : (done rest : List (List ℕ)) (sheets : List LegSheet) → AllGets sheets → map key_of sheets ≡ done ++ rest → SplitsBy done rest sheets
split_by [] rest sheets gets e = record { first = []; later = sheets; splits = refl; keys = refl; gets = tt }
split_by (key ∷ done) rest [] gets e = absurd (let no : [] ≡ key ∷ (done ++ rest) = e in cc)
split_by (key ∷ done) rest (sheet ∷ sheets) gets e =
    let own : key_of sheet ≡ key = cc in
    let others : map key_of sheets ≡ done ++ rest = cc in
    let next = split_by done rest sheets gets.1 others in
    record {
      first = sheet ∷ next.first;
      later = next.later;
      splits = ap (λ l. sheet ∷ l) next.splits;
      keys = ap (λ k. k ∷ map key_of next.first) own ∙ ap (λ l. key ∷ l) next.keys;
      gets = (gets.0, next.gets);
    }

keys_first : (first later : List LegSheet) → AllByRecursion IsKey (map key_of (first ++ later)) → AllByRecursion IsKey (map key_of first)
keys_first [] later are = tt
keys_first (sheet ∷ first) later are = (are.0, keys_first first later are.1)

-- so few that a reply has an item for each
few_keys : (keys : List (List ℕ)) → AllByRecursion IsKey keys → 2 * length keys ≤ sum_by (λ (key : List ℕ). length key + 1) keys
few_keys [] are = omega arith
few_keys (key ∷ keys) are =
    let head = sum_by-cons (λ (k : List ℕ). length k + 1) key keys in
    let some = are.0.not_empty in
    omega (arith, few_keys keys are.1, head, some)

-- some gets that stopped
many_stopped : (old new : CacheView) (now : ℕ) (first : LegSheet) (others : List LegSheet) (cause : Cause) (told : Reply) → AllGets (first ∷ others) → AllByRecursion IsKey (map key_of (first ∷ others))
    → AreTellable old.items → StopsAtKey RecencyStep (λ a _ _ b. b ≡ a) old now (map key_of (first ∷ others)) cause new → told ≡ ServerError cause
    → SentPerformed old now first others told new
many_stopped old new now first others cause told gets are all s is =
    let by = split_by s.done (s.key ∷ s.later) (first ∷ others) gets s.splits in
    let looked : GetsAll now old (map key_of by.first) s.found s.between = subst (λ k. GetsAll now old k s.found s.between) (sym by.keys) (gets_all now old s.between s.done s.found s.gets) in
    let done = gets_perform now by.first old s.between s.found by.gets looked in
    let known : AllByRecursion IsKey (map key_of by.first) = keys_first by.first by.later (subst (λ l. AllByRecursion IsKey (map key_of l)) by.splits are) in
    let kept = found_all now (map key_of by.first) old s.between s.found known all looked in
    let lost : (new ≡ s.between) × (cause ≡ OutOfMemory) = elim s.fails [
      | inl fault ↦ absurd (never_fails now s.key s.between.items (live_item now s.key s.between.items) cause fault.answers)
      | inr lost ↦ (elim lost.1 [ inl same ↦ same | inr same ↦ same ], lost.0)
    ] in
    subst (λ t. SentPerformed old now first others t new) (sym (is ∙ ap (λ c. ServerError c) lost.1))
    (record {
      performs = PerformsSent.fails by.first by.later done.said by.splits by.gets (subst (λ c. PerformsAll old now by.first done.said c) (sym lost.0) done.performs) tt;
      valid = tt;
      kept = subst (λ (c : CacheView). AreTellable c.items) (sym lost.0) kept.kept;
    })

-- some gets that found this
many_found : (old new : CacheView) (now : ℕ) (first other : LegSheet) (others : List LegSheet) (items : List Item) (told : Reply) → AllGets (first ∷ other ∷ others)
    → IsValidRequest (request.Get (map key_of (first ∷ other ∷ others))) → AreTellable old.items → GetsAll now old (map key_of (first ∷ other ∷ others)) items new
    → (told ≡ Items items) ⊎ (told ≡ ServerError OutOfMemory) → SentPerformed old now first (other ∷ others) told new
many_found old new now first other others items told gets valid all looks is =
    let sheets : List LegSheet = first ∷ other ∷ others in
    let done = gets_perform now sheets old new items gets looks in
    let are = recursion_from_All IsKey (map key_of sheets) valid.are_keys in
    let found = found_all now (map key_of sheets) old new items are all looks in
    let few = few_keys (map key_of sheets) are in
    elim is [
      | inl tells ↦ subst (λ t. SentPerformed old now first (other ∷ others) t new) (sym tells)
          (record {
            performs = PerformsSent.did done.said done.performs done.deals (λ e. e);
            valid = record { each = found.each; not_many = (let most = found.few in let fits = valid.fit in omega arith) };
            kept = found.kept;
          })
      | inr lost ↦ subst (λ t. SentPerformed old now first (other ∷ others) t new) (sym lost)
          (record { performs = PerformsSent.fails sheets [] done.said (sym (append-nil sheets)) gets done.performs tt; valid = tt; kept = found.kept })
    ]

many_told : (old new : CacheView) (now : ℕ) (first other : LegSheet) (others : List LegSheet) (outcome told : Reply) → AllGets (first ∷ other ∷ others)
    → IsValidRequest (request.Get (map key_of (first ∷ other ∷ others))) → AreTellable old.items
    → node_does old now (request.Get (map key_of (first ∷ other ∷ others))) outcome new → IsTold outcome told → SentPerformed old now first (other ∷ others) told new
many_told old new now first other others outcome told gets valid all does is =
    elim does [
      | inl found ↦ many_found old new now first other others found.0 told gets valid all
          (gets_all now old new (map key_of (first ∷ other ∷ others)) found.0 found.1) (told_items outcome told found.0 found.2 is)
      | inr lost ↦ many_stopped old new now first (other ∷ others) lost.0 told gets
          (recursion_from_All IsKey (map key_of (first ∷ other ∷ others)) valid.are_keys) all lost.1 (told_error outcome told lost.0 lost.2 is)
    ]

-- the request of a leg by itself, and of gets that travel together
pub request_one : (command : NodeCommand) → request_with command [] ≡ request_for command
request_one (Get key) = refl
request_one (Set key flags exptime block) = refl
request_one (Delete key) = refl

pub request_many : (command : NodeCommand) (others : List LegSheet) → is_get command ≡ true → request_with command others ≡ request.Get (key_of_command command ∷ map key_of others)
request_many (Get key) others e = refl
request_many (Set key flags exptime block) others e = cc
request_many (Delete key) others e = cc

-- what a node does for the request of legs that travelled together
pub sent_performed : (first : LegSheet) (others : List LegSheet) (old new : CacheView) (now : ℕ) (outcome told : Reply) → AreGets first others → IsValidRequest (request_with first.command others)
    → AreTellable old.items → node_does old now (request_with first.command others) outcome new → IsTold outcome told → SentPerformed old now first others told new
sent_performed first [] old new now outcome told gets valid all does is =
    let e = request_one first.command in
    let one = performed_for first.command old new now outcome told (subst IsValidRequest e valid) all (subst (λ r. node_does old now r outcome new) e does) is in
    record { performs = alone_performs old now first told new one.performs; valid = one.valid; kept = one.kept }
sent_performed first (other ∷ others) old new now outcome told gets valid all does is =
    let e = request_many first.command (other ∷ others) gets.0 in
    many_told old new now first other others outcome told gets (subst IsValidRequest e valid) all (subst (λ r. node_does old now r outcome new) e does) is
