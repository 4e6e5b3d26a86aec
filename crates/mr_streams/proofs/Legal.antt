-- What is read of a client's bytes can be asked of nodes.
use Rattle.std.proofs.Common.{◌≡◌, ◌≢◌, ℕ, zero, suc, ◌+◌, ◌<◌, ◌≤◌, inl, inr, List, [], ◌∷◌, length, map, sum_by, codes, Option, Some, None, refl, sym, ap, ◌∙◌, subst, arith}
use Rattle.std.specs.Prelude.{slice_index_or}
use Rattle.std.specs.List.{AllByRecursion}
use Rattle.std.proofs.lemmas.List.Elements.{recursion_from_All}
use Rattle.std.proofs.lemmas.List.Sums.{sum_by-cons}
use Rattle.mr_text.specs.Key.{FitLine, IsKey}
use Rattle.mr_text.specs.Limits.{MAX_LINE}
use Rattle.mr_text.proofs.Fitting.{words_length}
use Rattle.mr_text.specs.Requests.{SpellsRequest}
use Rattle.mr_text.specs.Valid.{IsValidRequest}
use Rattle.mr_text.specs.declared.request.Request.{Request}
use Rattle.mr_text.specs.declared.request.Request.TheVariants as request
use Rattle.mr_node.specs.declared.command.NodeCommand.{NodeCommand}
use Rattle.mr_node.specs.declared.command.NodeCommand.TheVariants.{Get, Set, Delete}
use Rattle.mr_proxy.specs.NodeRequests.{request_for}
use Rattle.mr_loop.specs.Asking.{StopsFor, Asking, HoldsBack}
use Rattle.mr_loop.specs.Inboxes.{FetchIs}
use Rattle.mr_loop.specs.declared.asker.Asker.{Asker}
use Rattle.mr_loop.specs.declared.asking.Pause.{Pause}
use Rattle.mr_loop.specs.declared.asking.Pause.TheVariants.{NeedsBytes, NeedsRoom, NeedsReader, NeedsQueue, NeedsMemory, IsDone}
use Rattle.mr_loop.specs.declared.inbox.Fetched.TheVariants.{Came, Done}
use Rattle.mr_loop.specs.declared.inbox.Inbox.{Inbox}
use Rattle.mr_loop.specs.declared.inbox.Input.{Input}
use Rattle.mr_loop.specs.declared.inbox.Input.TheVariants as input
use Rattle.mr_streams.proofs.Mirrors.{IsLegal, IsLegalInput}
use Rattle.mr_streams.proofs.Performing.{get_valid}

-- the keys of a line fit a line
keys_fit : (line : List ℕ) (words keys : List (List ℕ)) → sum_by (λ (word : List ℕ). length word + 1) words ≤ length line + 1 → words ≡ codes "get" ∷ keys → length line ≤ MAX_LINE
    → FitLine keys
keys_fit line words keys all e short =
    let parts : sum_by (λ (word : List ℕ). length word + 1) words ≡ 4 + sum_by (λ (word : List ℕ). length word + 1) keys =
    ap (λ w. sum_by (λ (word : List ℕ). length word + 1) w) e ∙ sum_by-cons (λ (word : List ℕ). length word + 1) (codes "get") keys in
    omega arith

gets_valid : (keys : List (List ℕ)) (k : ℕ) (command : NodeCommand) → AllByRecursion IsKey keys → k < length (map Get keys) → slice_index_or (map Get keys) k command ≡ command
    → IsValidRequest (request_for command)
gets_valid [] k command all below e = absurd (omega arith)
gets_valid (key ∷ keys) zero command all below e = subst (λ c. IsValidRequest (request_for c)) e (get_valid key all.0)
gets_valid (key ∷ keys) (suc k) command all below e = gets_valid keys k command all.1 (omega arith) e

one_valid : (one : NodeCommand) (k : ℕ) (command : NodeCommand) → IsValidRequest (request_for one) → k < length (one ∷ []) → slice_index_or (one ∷ []) k command ≡ command
    → IsValidRequest (request_for command)
one_valid one zero command valid below e = subst (λ c. IsValidRequest (request_for c)) e valid
one_valid one (suc k) command valid below e = absurd (let l : suc k < 1 = below in omega arith)

-- a request that was read, but a quit
pub spelled_legal : (bytes : List ℕ) (asked : Request) → SpellsRequest bytes asked → asked ≢ request.Quit → IsLegal asked
spelled_legal bytes (request.Get keys) spells no_quit = record {
  has_legs = spells.shaped.1;
  fits = keys_fit spells.is_line.line _ keys (words_length spells.is_line.line) (spells.is_line.splits ∙ spells.shaped.0) spells.is_line.not_long;
  valid = λ command has. gets_valid keys has.0 command (recursion_from_All IsKey keys spells.keys) has.1 has.2;
}
spelled_legal bytes (request.Set key flags exptime block noreply) spells no_quit = record {
  has_legs = tt;
  fits = tt;
  valid = λ command has. one_valid (Set key flags exptime block) has.0 command
      (record {
        is_key = spells.is_line.is_line.keys;
        flags_fit = spells.is_line.numbers.flags_fits;
        exptime_fits = spells.is_line.numbers.exptime_fits;
        is_block = spells.is_block;
      }) has.1 has.2;
}
spelled_legal bytes (request.Delete key noreply) spells no_quit = record {
  has_legs = tt;
  fits = tt;
  valid = λ command has. one_valid (Delete key) has.0 command spells.keys has.1 has.2;
}
spelled_legal bytes request.Quit spells no_quit = absurd (no_quit refl)

-- what stands next of a client
pub came_legal : (old new : Inbox) (next : Input) → IsLegalInput old.held → FetchIs old (Came next) new → IsLegalInput (Some next)
came_legal old new (input.Asks request) legal fetch =
    elim fetch [
      | inl held ↦ subst IsLegalInput held.held legal
      | inr reads ↦ (let begins = reads.0.next.2 in spelled_legal begins.spelling request begins.spells reads.1)
    ]
came_legal old new (input.Refused refusal) legal fetch = tt

none_legal : (o : Option Input) → o ≡ None → IsLegalInput o
none_legal o e = subst IsLegalInput (sym e) tt

-- nothing is held back then
pub came_held : (old new : Inbox) (next : Input) → FetchIs old (Came next) new → IsLegalInput new.held
came_held old new (input.Asks request) fetch =
    elim fetch [
      | inl held ↦ none_legal new.held (ap (λ (i : Inbox). i.held) held.taken)
      | inr reads ↦ none_legal new.held reads.0.same_held
    ]
came_held old new (input.Refused refusal) fetch =
    elim fetch [
      | inl held ↦ none_legal new.held (ap (λ (i : Inbox). i.held) held.taken)
      | inr reads ↦ none_legal new.held reads.0.same_held
    ]

-- where no more is done the core, its clients and the links are as they were, and what is held back is legal
pub record IsStopped (old new : Asking) : Type 0 where
  pub same_front : new.front ≡ old.front
  pub same_links : new.links ≡ old.links
  pub legal : IsLegalInput new.inbox.held

held_back : (asker : Asker) (old new : Asking) (next : Input) → IsLegalInput old.inbox.held → HoldsBack asker old new next → IsStopped old new
held_back asker old new next legal h = record {
  same_front = ap (λ (a : Asking). a.front) h.held;
  same_links = ap (λ (a : Asking). a.links) h.held;
  legal = subst (λ (a : Asking). IsLegalInput a.inbox.held) (sym h.held) (came_legal old.inbox h.fetched next legal h.came);
}

done_held : (old new : Inbox) → IsLegalInput old.held → FetchIs old Done new → IsLegalInput new.held
done_held old new legal fetch =
    elim fetch [
      | inl over ↦ subst (λ (i : Inbox). IsLegalInput i.held) (sym over.2) legal
      | inr reads ↦ elim reads [
        | inl quits ↦ none_legal new.held quits.same_held
        | inr other ↦ elim other [
          | inl ended ↦ none_legal new.held ended.0.same_held
          | inr closed ↦ none_legal new.held closed.same_held
        ]
      ]
    ]

pub stops : (asker : Asker) (pause : Pause) (old new : Asking) → IsLegalInput old.inbox.held → StopsFor asker pause old new → IsStopped old new
stops asker NeedsReader old new legal h = record {
  same_front = ap (λ (a : Asking). a.front) h.1;
  same_links = ap (λ (a : Asking). a.links) h.1;
  legal = subst (λ (a : Asking). IsLegalInput a.inbox.held) (sym h.1) legal;
}
stops asker NeedsBytes old new legal h = record { same_front = h.1.same_front; same_links = h.1.same_links; legal = none_legal new.inbox.held h.0.0.same_held }
stops asker IsDone old new legal h = record { same_front = h.1.same_front; same_links = h.1.same_links; legal = done_held old.inbox new.inbox legal h.0 }
stops asker NeedsRoom old new legal h = held_back asker old new (input.Asks h.0) legal h.1
stops asker (NeedsQueue number) old new legal h = held_back asker old new (input.Asks h.0) legal h.1
stops asker NeedsMemory old new legal h =
    elim h [
      | inl unread ↦ record {
        same_front = ap (λ (a : Asking). a.front) unread.left;
        same_links = ap (λ (a : Asking). a.links) unread.left;
        legal = subst (λ (a : Asking). IsLegalInput a.inbox.held) (sym unread.left) (none_legal unread.fetched.held unread.refused.same_held);
      }
      | inr held ↦ held_back asker old new held.0 legal held.1
    ]
