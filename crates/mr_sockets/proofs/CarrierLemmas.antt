-- What a carrier did with a leg, as the trait has it.
use Rattle.std.proofs.Common.{◌≡◌, ◌+◌, ◌<◌, ℕ, List, [], ◌∷◌, ◌++◌, map, take, length, get_or, refl, sym, ap, subst, ◌∙◌}
use Rattle.std.proofs.lemmas.List.{map_more, map-append}
use Rattle.std.specs.Prelude.{Some, None, Result, Ok, Err, MatchResult}
use Rattle.mr_join.specs.declared.leg_reply.LegReply.{LegReply}
use Rattle.mr_proxy.specs.declared.sheet.LegSheet.{LegSheet}
use Rattle.mr_desks.specs.declared.error.WorkerError.{WorkerError}
use Rattle.mr_sockets.specs.SocketCarrier.{SocketView, CarriesSo, SocketCarries}

pub carries_by : (old : SocketView) (sheet : LegSheet) (result : Result LegReply WorkerError) (new : SocketView) → CarriesSo sheet.command old result new
    → MatchResult result (λ reply. SocketCarries old sheet (Some reply) new) (λ _. SocketCarries old sheet None new)
carries_by old sheet (Ok reply) new so = so
carries_by old sheet (Err fault) new so = (fault, so)

pub counted_by : (old : SocketView) (sheet : LegSheet) (result : Result LegReply WorkerError) (new : SocketView) → CarriesSo sheet.command old result new
    → MatchResult result (λ _. new.faults ≡ old.faults) (λ _. new.faults ≡ old.faults + 1)
counted_by old sheet (Ok reply) new so = so.counted
counted_by old sheet (Err fault) new so = so.counted

-- one more was made, of the next name
pub one_more : {X Y : Type 0} (f : Y → X) (old new : List X) (items names : List Y) (i : ℕ) (x : X) (name : Y) → old ≡ map f (take i names)
    → new ≡ old ++ x ∷ [] → x ≡ f name → name ≡ get_or items i name → items ≡ names → i < length items → new ≡ map f (take (i + 1) names)
one_more f old new items names i x name kept added made is same below =
    let here : x ≡ f (get_or names i name) = made ∙ ap f (is ∙ ap (λ l. get_or l i name) same) in
    added ∙ (λ k. kept k ++ here k ∷ []) ∙ sym (map_more f names i name (subst (λ l. i < length l) same below))

-- the same, where what was made is seen through `view`
pub one_more_seen : {X Y Z : Type 0} (old new : List Z) (view : Z → X) (f : Y → X) (names : List Y) (i : ℕ) (x : Z) (name : Y)
    → map view old ≡ map f (take i names) → new ≡ old ++ x ∷ [] → view x ≡ f name → name ≡ get_or names i name → i < length names
    → map view new ≡ map f (take (i + 1) names)
one_more_seen old new view f names i x name kept added made is below =
    one_more f (map view old) (map view new) names names i (view x) name kept (ap (map view) added ∙ map-append view old (x ∷ [])) made is refl below
