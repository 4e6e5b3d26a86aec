-- What one more look, a failed write and the last lines say of a whole watch.
use Rattle.std.proofs.Common.{arith, ◌≡◌, ◌+◌, ◌∙◌, ℕ, Bool, true, false, List, [], ◌∷◌, length, Result, Ok, Err, IsErrAnd, refl, ap, subst, sym, inl, inr}
use Rattle.mr_configs.specs.Config.{ConfigView}
use Rattle.mr_phases.specs.Schedule.{Hop}
use Rattle.mr_pools.specs.Routing.{RoutingView}
use Rattle.mr_words.specs.declared.printing.PrintFault.{PrintFault}
use Rattle.mr_words.specs.declared.printing.PrintFault.TheVariants.{Memory, Write}
use Rattle.mr_text.proofs.Writes.{written_none, written_then}
use Rattle.mr_text.specs.Sink.{SinkView, HasWritten}
use Rattle.mr_watch.specs.Findings.{all_unseen}
use Rattle.mr_watch.specs.declared.finding.Findings.{Findings}
use Rattle.mr_watch.specs.declared.look.NodeSeen.{NodeSeen}
use Rattle.mr_looks.specs.Looking.{HasLookedAt, NodeNamed, all_named, nodes_of_pools}
use Rattle.mr_looks.specs.Posts.{AreUnasked, addresses_of}
use Rattle.mr_looks.specs.Watch.{EndsWatch, FailsToWrite, Fleet, HasEnded, HasLooked, HasShown, HasWatched, IsLook, LacksMemoryBehind, Looks, NeverMigrated, Sight, StopsBehind, WatchesConfig, WritesLook, WritesLooks, WritesView, all_texts, fleet_of, fleet_seen, found_by, is_first, most_looks}
use Rattle.mr_looks.specs.WatchText.{is_sound, last_lines, shown}
use Rattle.mr_looks.specs.declared.manner.Manner.{Manner}
use Rattle.mr_looks.specs.declared.posts.Post.{Post}
use Rattle.mr_looks.specs.declared.watching.Found.{Found}

abbrev fleet_by : List ℕ → List Hop → List NodeNamed → List (List ℕ) → Fleet
fleet_by digest hops nodes addresses = record { hops = hops; nodes = nodes; digest = digest; addresses = addresses }

-- the same fleet, part by part
same_fleet : (digest : List ℕ) (hops other_hops : List Hop) (nodes other_nodes : List NodeNamed) (addresses other_addresses : List (List ℕ))
    → hops ≡ other_hops → nodes ≡ other_nodes → addresses ≡ other_addresses
    → fleet_by digest hops nodes addresses ≡ fleet_by digest other_hops other_nodes other_addresses
same_fleet digest hops other_hops nodes other_nodes addresses other_addresses of_hops of_nodes of_addresses =
    ap (λ (h : List Hop). fleet_by digest h nodes addresses) of_hops ∙ ap (λ (n : List NodeNamed). fleet_by digest other_hops n addresses) of_nodes
    ∙ ap (fleet_by digest other_hops other_nodes) of_addresses

-- a look at all nodes of the configuration is of its fleet
pub seen_fleet : (config : ConfigView) (routing : RoutingView) (digest : List ℕ) (hops : List Hop) (saw : Sight) (addresses : List (List ℕ))
    → hops ≡ config.schedule → all_named saw.seen.nodes.items ≡ nodes_of_pools routing.pools → routing ≡ config.routing
    → addresses_of saw.posts ≡ addresses → fleet_seen hops digest saw ≡ fleet_of config digest addresses
seen_fleet config routing digest hops saw addresses of_hops of_nodes of_routing of_posts =
    same_fleet digest _ _ _ _ _ _ of_hops (of_nodes ∙ ap (λ (r : RoutingView). nodes_of_pools r.pools) of_routing) of_posts

-- So many looks were written so far, with these findings, and left the services so; the next one is the first one, or not. None of
-- them was to be the last one.
pub record IsUnderway (manner : Manner) (once : Bool) (fleet : Fleet) (posts : List Post) (old : SinkView) (findings : Findings) (first : Bool) (number : ℕ)
    (new : SinkView) : Type 0 where
  pub looks : Looks
  pub shown : HasShown manner once fleet looks posts old new
  pub waits : NeverMigrated fleet.hops looks
  pub are_found : findings ≡ found_by looks
  pub is_first : first ≡ is_first looks
  pub fresh : once ≡ true → looks ≡ []
  pub count : length looks ≡ number

pub underway_at_first : (manner : Manner) (once : Bool) (fleet : Fleet) (posts : List Post) (w : SinkView) → AreUnasked posts
    → IsUnderway manner once fleet posts w all_unseen true 0 w
underway_at_first manner once fleet posts w unasked = record {
  looks = [];
  shown = record { are_looks = unasked; alone = λ e. omega arith; waits = tt; writes = written_none w };
  waits = tt;
  are_found = refl;
  is_first = refl;
  fresh = λ e. refl;
  count = refl;
}

-- one look more
module _ (manner : Manner) (once : Bool) (fleet : Fleet) (before : List Post) (saw : Sight) (old mid new : SinkView) (findings : Findings) (first : Bool)
    (number : ℕ) (found : Found) (looked : HasLookedAt before saw.seen.nodes.items saw.posts) where
  one_more : (u : IsUnderway manner once fleet before old findings first number mid) (w : WritesView manner fleet first findings saw mid found new)
      → HasShown manner once fleet (w.view ∷ u.looks) saw.posts old new
  one_more u w =
      let of_first : IsLook fleet (is_first u.looks) findings saw.posts w.view = subst (λ (b : Bool). IsLook fleet b findings saw.posts w.view) u.is_first w.is_look in
      let is : IsLook fleet (is_first u.looks) (found_by u.looks) saw.posts w.view =
      subst (λ (f : Findings). IsLook fleet (is_first u.looks) f saw.posts w.view) u.are_found of_first in
      let looks : HasLookedAt before w.view.look.nodes.now saw.posts = subst (λ (n : List NodeSeen). HasLookedAt before n saw.posts) (sym w.shows.nodes) looked in
      let same : shown manner first findings w.view ≡ shown manner (is_first u.looks) (found_by u.looks) w.view =
      ap (λ (b : Bool). shown manner b findings w.view) u.is_first ∙ ap (λ (f : Findings). shown manner (is_first u.looks) f w.view) u.are_found in
      let writes = subst (λ (text : List ℕ). HasWritten text mid new) same w.writes in
      record {
        are_looks = (before, u.shown.are_looks, looks, is);
        alone = λ e. let none : length u.looks ≡ 0 = ap (λ (l : Looks). length l) (u.fresh e) in omega arith;
        waits = u.waits;
        writes = written_then (all_texts manner u.looks) _ old mid new u.shown.writes writes;
      }

  -- it was the last one
  pub looked_last : IsUnderway manner once fleet before old findings first number mid → WritesView manner fleet first findings saw mid found new
      → (once ≡ false → found.migrated ≡ true) → HasLooked manner once fleet saw.posts old found.findings new
  looked_last u w last = record {
    looks = w.view ∷ u.looks;
    shown = one_more u w;
    over = record { looked = omega arith; over = λ more. inl (sym w.migrated ∙ last more) };
    are_found = w.findings;
  }

  -- it wasn't
  pub underway_more : IsUnderway manner once fleet before old findings first number mid → WritesView manner fleet first findings saw mid found new
      → once ≡ false → found.migrated ≡ false → IsUnderway manner once fleet saw.posts old found.findings false (number + 1) new
  underway_more u w more goes_on = record {
    looks = w.view ∷ u.looks;
    shown = one_more u w;
    waits = (sym w.migrated ∙ goes_on, u.waits);
    are_found = w.findings;
    is_first = refl;
    fresh = λ e. let never : true ≡ false = sym e ∙ more in cc;
    count = let count : length u.looks ≡ number = u.count in omega arith;
  }

-- where there was to be one alone, it was the last one
pub last_alone : (once migrated : Bool) → once ≡ true → once ≡ false → migrated ≡ true
last_alone once migrated alone more = let never : true ≡ false = sym alone ∙ more in cc

-- all looks that there may be were made
pub looked_all : (manner : Manner) (once : Bool) (fleet : Fleet) (posts : List Post) (old new : SinkView) (findings : Findings) (first : Bool) (number : ℕ)
    → IsUnderway manner once fleet posts old findings first number new → number ≡ most_looks → HasLooked manner once fleet posts old findings new
looked_all manner once fleet posts old new findings first number u all = record {
  looks = u.looks;
  shown = u.shown;
  over = record { looked = let count : length u.looks ≡ number = u.count in omega arith; over = λ more. inr (u.count ∙ all) };
  are_found = u.are_found;
}

-- a write of the next one failed
pub stops_behind : (manner : Manner) (once : Bool) (fleet : Fleet) (posts : List Post) (old mid new : SinkView) (findings : Findings) (first : Bool) (number : ℕ)
    → IsUnderway manner once fleet posts old findings first number mid → (text : List ℕ) → FailsToWrite text mid new → StopsBehind manner once fleet old new
stops_behind manner once fleet posts old mid new findings first number u text fails =
    record { looks = u.looks; posts = posts; between = mid; shown = u.shown; text = text; fails = fails }

-- memory was refused for the next one
pub lacks_behind : (manner : Manner) (once : Bool) (fleet : Fleet) (posts : List Post) (old mid new : SinkView) (findings : Findings) (first : Bool) (number : ℕ)
    → IsUnderway manner once fleet posts old findings first number mid → new ≡ mid → LacksMemoryBehind manner once fleet old new
lacks_behind manner once fleet posts old mid new findings first number u same =
    record { looks = u.looks; posts = posts; shown = subst (λ (w : SinkView). HasShown manner once fleet u.looks posts old w) (sym same) u.shown }

-- memory was refused before the first look
pub nothing_watched : (manner : Manner) (once : Bool) (fleet : Fleet) (w : SinkView) → LacksMemoryBehind manner once fleet w w
nothing_watched manner once fleet w = record {
  looks = [];
  posts = [];
  shown = record { are_looks = λ k d within. absurd (omega arith); alone = λ e. omega arith; waits = tt; writes = written_none w };
}

-- the looks and then the last lines
pub watched : (manner : Manner) (once : Bool) (fleet : Fleet) (old mid new : SinkView) (posts : List Post) (findings : Findings) (sound : Bool)
    → HasLooked manner once fleet posts old findings mid → HasEnded manner posts findings mid sound new → HasWatched manner once fleet old sound new
watched manner once fleet old mid new posts findings sound looked end = record {
  looks = looked.looks;
  posts = posts;
  are_looks = looked.shown.are_looks;
  alone = looked.shown.alone;
  waits = looked.shown.waits;
  over = looked.over;
  unreached = end.unreached;
  are_unreached = end.are_unreached;
  writes = written_then (all_texts manner looked.looks) _ old mid new looked.shown.writes
      (subst (λ (f : Findings). HasWritten (last_lines manner f end.unreached) mid new) looked.are_found end.writes);
  sound_is = end.sound_is ∙ ap (λ (f : Findings). is_sound f end.unreached) looked.are_found;
}

-- looks were written, but not the last lines
pub end_stops : (manner : Manner) (once : Bool) (fleet : Fleet) (old mid new : SinkView) (posts : List Post) (findings : Findings)
    → HasLooked manner once fleet posts old findings mid → (text : List ℕ) → FailsToWrite text mid new → StopsBehind manner once fleet old new
end_stops manner once fleet old mid new posts findings looked text fails =
    record { looks = looked.looks; posts = posts; between = mid; shown = looked.shown; text = text; fails = fails }

pub end_lacks : (manner : Manner) (once : Bool) (fleet : Fleet) (old mid new : SinkView) (posts : List Post) (findings : Findings)
    → HasLooked manner once fleet posts old findings mid → new ≡ mid → LacksMemoryBehind manner once fleet old new
end_lacks manner once fleet old mid new posts findings looked same = record {
  looks = looked.looks;
  posts = posts;
  shown = subst (λ (w : SinkView). HasShown manner once fleet looked.looks posts old w) (sym same) looked.shown;
}

-- what comes of the last lines is what comes of the watch
pub watch_ended : (manner : Manner) (once : Bool) (fleet : Fleet) (old mid new : SinkView) (posts : List Post) (findings : Findings)
    (result : Result Bool PrintFault) → HasLooked manner once fleet posts old findings mid → EndsWatch manner posts findings mid result new
    → WatchesConfig manner once fleet old result new
watch_ended manner once fleet old mid new posts findings (Ok sound) looked ends = watched manner once fleet old mid new posts findings sound looked ends
watch_ended manner once fleet old mid new posts findings (Err Write) looked ends =
    end_stops manner once fleet old mid new posts findings looked ends.0 ends.1
watch_ended manner once fleet old mid new posts findings (Err Memory) looked ends = end_lacks manner once fleet old mid new posts findings looked ends

-- what holds of a failure holds of a result that is it
pub failed_so : {T : Type 0} (holds : Result T PrintFault → Type 0) (result : Result T PrintFault) (failed : PrintFault)
    → IsErrAnd result (λ other. other ≡ failed) → holds (Err failed) → holds result
failed_so holds (Ok value) failed is of_failed = absurd is
failed_so holds (Err other) failed is of_failed = subst (λ (f : PrintFault). holds (Err f)) (sym is) of_failed

-- the looks weren't all written, and that is passed on
pub watch_failed : (manner : Manner) (once : Bool) (fleet : Fleet) (posts : List Post) (old new : SinkView) (failed : PrintFault) (result : Result Bool PrintFault)
    → IsErrAnd result (λ other. other ≡ failed) → WritesLooks manner once fleet posts old (Err failed) new → WatchesConfig manner once fleet old result new
watch_failed manner once fleet posts old new failed result is wrote =
    failed_so (λ (r : Result Bool PrintFault). WatchesConfig manner once fleet old r new) result failed is (passed failed wrote)
  where
    passed : (failed : PrintFault) → WritesLooks manner once fleet posts old (Err failed) new → WatchesConfig manner once fleet old (Err failed) new
    passed Write wrote = wrote
    passed Memory wrote = wrote

-- a look that wasn't written, which is passed on
pub looks_failed : (manner : Manner) (once : Bool) (fleet : Fleet) (before now : List Post) (saw : Sight) (old mid new : SinkView) (findings : Findings)
    (first : Bool) (number : ℕ) (failed : PrintFault) (result : Result Findings PrintFault) → IsErrAnd result (λ other. other ≡ failed)
    → IsUnderway manner once fleet before old findings first number mid → WritesLook manner fleet first findings saw mid (Err failed) new
    → WritesLooks manner once fleet now old result new
looks_failed manner once fleet before now saw old mid new findings first number failed result is u wrote =
    failed_so (λ (r : Result Findings PrintFault). WritesLooks manner once fleet now old r new) result failed is (passed failed wrote)
  where
    passed : (failed : PrintFault) → WritesLook manner fleet first findings saw mid (Err failed) new → WritesLooks manner once fleet now old (Err failed) new
    passed Write wrote = stops_behind manner once fleet before old mid new findings first number u wrote.0 wrote.1
    passed Memory wrote = lacks_behind manner once fleet before old mid new findings first number u wrote
