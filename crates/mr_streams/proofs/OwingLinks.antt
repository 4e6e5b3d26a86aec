-- What is owed stays so while links change, and grows by a leg that goes over one.
use Rattle.std.proofs.Common.{◌≡◌, ◌≢◌, ℕ, zero, suc, ◌+◌, ◌≤◌, ◌<◌, ◌⊎◌, inl, inr, Bool, true, false, List, [], ◌∷◌, ◌++◌, length, map, get_or, slice_get, slice_set, Option, Some, None, if◌then◌else◌, refl, sym, ap, ◌∙◌, subst, append_assoc, arith}
use Rattle.std.specs.List.{flat_map, AllByRecursion, sum_by}
use Rattle.std.proofs.lemmas.Bool.{cases_Bool}
use Rattle.std.proofs.lemmas.Grind.{flat_map-append}
use Rattle.std.proofs.lemmas.List.{append-nil, length-map, length-set, get_or-set_same, get_or-set_other, set-set}
use Rattle.std.proofs.lemmas.List.Sums.{sum_by-set, sum_by_push, sum_by-cons}
use Rattle.std.proofs.lemmas.Option.{slice_get_within}
use Rattle.mr_history.specs.Places.{At}
use Rattle.mr_pools.specs.Routing.{RoutingView}
use Rattle.mr_proxy.specs.declared.sheet.LegSheet.{LegSheet}
use Rattle.mr_loop.specs.Counts.{leg_unsent}
use Rattle.mr_loop.specs.Links.{all_sent, each_sent, is_get, sent_over, sent_over_in, sent_by, text_of, travelling, travels_with, with_leg, with_traveller, link_of, is_up_at}
use Rattle.mr_loop.specs.LoopView.{LoopView}
use Rattle.mr_loop.specs.declared.asker.Asker.{Asker}
use Rattle.mr_loop.specs.declared.link.Link.{Link}
use Rattle.mr_loop.specs.declared.node.client.NodeClient.{NodeClient}
use Rattle.mr_loop.specs.declared.sent_legs.SentLeg.{SentLeg}
use Rattle.mr_streams.proofs.Performing.{request_many, request_one}
use Rattle.mr_streams.proofs.Travels.{FitTogether, IsReadableSheet, IsTravelling, both_gets, travel_valid}
use Rattle.mr_loop.proofs.TravelLemmas.{behind}
use Rattle.mr_streams.specs.Steps.{left_if_down}
use Rattle.mr_streams.specs.StreamsView.{Connection}
use Rattle.mr_streams.proofs.Changing.{IsSameLink, unless_down, up_at}
use Rattle.mr_streams.proofs.Lists.{at_map, at_one, at_written, at_elsewhere, at_nothing, at_set, same_or_not, written_back}
use Rattle.mr_streams.proofs.LinkEvents.{elsewhere_same}
use Rattle.mr_streams.proofs.Owing.{Picks, Writes, IsReadable, Carries, AreCarried, sets, sets_of_leg, sets_of_sheet, total, itself}

-- the links of another proxy change
pub writes_elsewhere : (lines : List (List Link)) (p : ℕ) (links' : List Link) (proxy number : ℕ) (out : List ℕ) → proxy ≢ p
    → Writes lines proxy number out → Writes (slice_set lines p links') proxy number out
writes_elsewhere lines p links' proxy number out other h = record {
  links = h.links;
  link = h.link;
  home = at_elsewhere links' other h.home;
  there = h.there;
  is_up = h.is_up;
  out_is = h.out_is;
}

-- another link of the proxy changes
pub writes_kept : (lines : List (List Link)) (p node : ℕ) (links : List Link) (link' : Link) (proxy number : ℕ) (out : List ℕ) → At lines p links → proxy ≡ p → number ≢ node
    → Writes lines proxy number out → Writes (slice_set lines p (slice_set links node link')) proxy number out
writes_kept lines p node links link' proxy number out there same other h =
    let own : links ≡ h.links = at_one there (subst (λ n. At lines n h.links) same h.home) in
    let links' : List Link = slice_set links node link' in
    record {
      links = links';
      link = h.link;
      home = subst (λ n. At (slice_set lines p links') n links') (sym same) (at_written links' there);
      there = at_elsewhere link' other (subst (λ x. At x number h.link) (sym own) h.there);
      is_up = h.is_up;
      out_is = h.out_is;
    }

-- a link is as it was, where it is up
writes_still : (lines : List (List Link)) (p : ℕ) (links links' : List Link) (proxy number : ℕ) (out : List ℕ) → At lines p links → proxy ≡ p
    → IsSameLink links links' number → is_up_at links' number ≡ true → Writes lines proxy number out → Writes (slice_set lines p links') proxy number out
writes_still lines p links links' proxy number out there same still up h =
    let own : links ≡ h.links = at_one there (subst (λ n. At lines n h.links) same h.home) in
    let new = up_at links' number up in
    let is = still h.link new.0 (subst (λ l. At l number h.link) (sym own) h.there) new.1 h.is_up new.2 in
    record {
      links = links';
      link = new.0;
      home = subst (λ n. At (slice_set lines p links') n links') (sym same) (at_written links' there);
      there = new.1;
      is_up = new.2;
      out_is = is.2 ∙ h.out_is;
    }

-- the link of a connection whose proxy's end is there
pub own_link : (lines : List (List Link)) (p number : ℕ) (links : List Link) (link : Link) (proxy place : ℕ) (out : List ℕ) → At lines p links → At links number link → proxy ≡ p → place ≡ number
    → (h : Writes lines proxy place out) → link ≡ h.link
own_link lines p number links link proxy place out there link_there same same_link h =
    let links_are : links ≡ h.links = at_one there (subst (λ n. At lines n h.links) same h.home) in
    at_one link_there (subst (λ x. At x number h.link) (sym links_are) (subst (λ n. At h.links n h.link) same_link h.there))

-- a connection that isn't left, over a link of a proxy
abbrev pub IsOver : ℕ → ℕ → Connection → Type 0
IsOver p number c = (c.is_left ≡ false) × (c.proxy ≡ p) × (c.link ≡ number)

over_or_else : (p number : ℕ) (c : Connection) → IsOver p number c ⊎ (IsOver p number c → ⊥)
over_or_else p number c =
    elim (cases_Bool c.is_left) [
      | inl left ↦ inr (λ h. (let no : true ≡ false = sym left ∙ h.0 in cc))
      | inr here ↦ elim (same_or_not c.proxy p) [
        | inl same ↦ elim (same_or_not c.link number) [ inl link ↦ inl (here, same, link) | inr other ↦ inr (λ h. other h.2) ]
        | inr other ↦ inr (λ h. other h.1)
      ]
    ]

-- no connection is over the link
abbrev IsOverNone : ℕ → ℕ → List Connection → Type 0
IsOverNone p number connections = (k : ℕ) (c : Connection) → At connections k c → IsOver p number c → ⊥

none_of : (p number : ℕ) (c : Connection) (connections : List Connection) → (IsOver p number c → ⊥) → IsOverNone p number connections → IsOverNone p number (c ∷ connections)
none_of p number c connections first others zero d there over =
    let e : Some c ≡ Some d = there.gets in
    let same : c ≡ d = cc in
    first (subst (λ x. IsOver p number x) (sym same) over)
none_of p number c connections first others (suc k) d there over = others k d (record { gets = there.gets }) over

-- the connection over a link, where there is one
find_over : (p number : ℕ) (connections : List Connection) → ((k : ℕ) × (c : Connection) × At connections k c × IsOver p number c) ⊎ IsOverNone p number connections
find_over p number [] = inr (λ k c there over. at_nothing there)
find_over p number (c ∷ connections) =
    elim (over_or_else p number c) [
      | inl over ↦ inl (0, c, record { gets = refl }, over)
      | inr not ↦ elim (find_over p number connections) [
        | inl found ↦ inl (suc found.0, found.1, record { gets = found.2.gets }, found.3)
        | inr none ↦ inr (none_of p number c connections not none)
      ]
    ]

readable_more : (legs : List SentLeg) (sent : SentLeg) → AllByRecursion IsReadable legs → IsReadable sent → AllByRecursion IsReadable (legs ++ sent ∷ [])
readable_more [] sent all one = (one, all)
readable_more (leg ∷ legs) sent all one = (all.0, readable_more legs sent all.1 one)

-- the text of one more leg
text_more : (legs : List SentLeg) (sent : SentLeg) (kept forth out : List ℕ) → kept ++ (forth ++ out) ≡ flat_map text_of legs
    → kept ++ (forth ++ (out ++ text_of sent)) ≡ flat_map text_of (legs ++ sent ∷ [])
text_more legs sent kept forth out e =
    let text : List ℕ = text_of sent in
    let grouped : (kept ++ (forth ++ out)) ++ text ≡ kept ++ (forth ++ (out ++ text)) =
    append_assoc kept (forth ++ out) text ∙ ap (λ x. kept ++ x) (append_assoc forth out text) in
    sym grouped ∙ ap (λ x. x ++ text) e ∙ ap (λ x. flat_map text_of legs ++ x) (sym (append-nil text)) ∙ sym (flat_map-append text_of legs (sent ∷ []))

-- at each place there is at most one connection over a link that isn't left
abbrev pub AreSingle : List Connection → Type 0
AreSingle connections =
    (i j : ℕ) (c d : Connection) → At connections i c → At connections j d → c.is_left ≡ false → d.is_left ≡ false → c.proxy ≡ d.proxy → c.link ≡ d.link → i ≡ j

-- gets set nothing, however many travel together
sets_none : (is : Picks) (sent : SentLeg) → is_get sent.leg.command ≡ true → sets_of_leg is sent ≡ 0
sets_none is sent get = ap (sets is) (request_many sent.leg.command sent.others get)

one_sets : (is : Picks) (asker : Asker) (sheet : LegSheet) (sents : List SentLeg)
    → sum_by (sets_of_leg is) (with_traveller asker sheet sents) ≤ sum_by (sets_of_leg is) sents + sets_of_sheet is sheet
one_sets is asker sheet [] =
    let only = sum_by-cons (sets_of_leg is) (sent_by asker sheet) [] in
    let same : sets_of_leg is (sent_by asker sheet) ≡ sets_of_sheet is sheet = ap (sets is) (request_one sheet.command) in
    omega arith
one_sets is asker sheet (sent ∷ sents) =
    elim (travels_with sheet sent.leg) as (λ b. travels_with sheet sent.leg ≡ b
    → sum_by (sets_of_leg is) (if b then behind sheet sent ∷ sents else sent ∷ with_traveller asker sheet sents) ≤ sum_by (sets_of_leg is) (sent ∷ sents) + sets_of_sheet is sheet) [
      | true ↦ λ e. (
          let get = (both_gets sheet sent.leg e).1 in
          let new = sum_by-cons (sets_of_leg is) (behind sheet sent) sents in
          let old = sum_by-cons (sets_of_leg is) sent sents in
          let none = sets_none is (behind sheet sent) get in
          omega arith)
      | false ↦ λ e. (
          let new = sum_by-cons (sets_of_leg is) sent (with_traveller asker sheet sents) in
          let old = sum_by-cons (sets_of_leg is) sent sents in
          let rest = one_sets is asker sheet sents in
          omega arith)
    ] refl

sets_together : (is : Picks) (asker : Asker) (sheets : List LegSheet) (sents : List SentLeg)
    → sum_by (sets_of_leg is) (travelling asker sents sheets) ≤ sum_by (sets_of_leg is) sents + sum_by (sets_of_sheet is) sheets
sets_together is asker [] sents = omega arith
sets_together is asker (sheet ∷ sheets) sents =
    let first = one_sets is asker sheet sents in
    let rest = sets_together is asker sheets (with_traveller asker sheet sents) in
    let sum = sum_by-cons (sets_of_sheet is) sheet sheets in
    omega arith

module _ (is : Picks) (seats : List (List NodeClient)) where
  -- the proxy's end of a connection is gone
  pub carries_left : (lines lines' : List (List Link)) (c : Connection) (most : ℕ) → Carries is lines seats c most → Carries is lines' seats (record c { is_left = true }) most
  carries_left lines lines' c most h = record {
    legs = h.legs;
    out = h.out;
    readable = h.readable;
    few = h.few;
    texts = h.texts;
    here = λ e. absurd (let no : true ≡ false = e in cc);
  }

  -- the links change, but not the one that the connection goes over
  carries_on : (lines lines' : List (List Link)) (c : Connection) (most : ℕ) → (c.is_left ≡ false → (out : List ℕ) → Writes lines c.proxy c.link out → Writes lines' c.proxy c.link out)
      → Carries is lines seats c most → Carries is lines' seats c most
  carries_on lines lines' c most same h = record {
    legs = h.legs;
    out = h.out;
    readable = h.readable;
    few = h.few;
    texts = h.texts;
    here = λ e. same e h.out (h.here e);
  }

  -- a connection whose link is as it was, or is down
  pub carries_moved : (lines : List (List Link)) (p : ℕ) (links : List Link) (loop' : LoopView) (c : Connection) (most : ℕ) → At lines p links
      → (c.is_left ≡ false → c.proxy ≡ p → IsSameLink links loop'.links c.link)
      → Carries is lines seats c most → Carries is (slice_set lines p loop'.links) seats (left_if_down p loop' c) most
  carries_moved lines p links loop' c most there still h =
      let lines' : List (List Link) = slice_set lines p loop'.links in
      unless_down (λ x. Carries is lines' seats x most) p loop' c (carries_left lines lines' c most h) (λ where'.
      carries_on lines lines' c most (λ here out w. elim where' [
        | inl other ↦ writes_elsewhere lines p loop'.links c.proxy c.link out other w
        | inr same ↦ writes_still lines p links loop'.links c.proxy c.link out there same.0 (still here same.0) same.1 w
      ]) h)

  -- so it is with all
  pub carried_moved : (lines : List (List Link)) (connections : List Connection) (owed : List ℕ) (p : ℕ) (links : List Link) (loop' : LoopView) → At lines p links
      → ((place : ℕ) → IsSameLink links loop'.links place) → AreCarried is lines seats connections owed
      → AreCarried is (slice_set lines p loop'.links) seats (map (left_if_down p loop') connections) owed
  carried_moved lines connections owed p links loop' there still h = record {
    as_many = h.as_many ∙ sym (length-map connections (left_if_down p loop'));
    each = λ i c k. (let old = at_map (left_if_down p loop') connections k in
        subst (λ x. Carries is (slice_set lines p loop'.links) seats x (get_or owed i 0)) (sym old.2)
        (carries_moved lines p links loop' old.0 (get_or owed i 0) there (λ here same. still old.0.link) (h.each i old.0 old.1)));
  }

  -- a connection over another link
  carries_apart : (lines : List (List Link)) (p number : ℕ) (links : List Link) (link' : Link) (c : Connection) (most : ℕ) → At lines p links → (IsOver p number c → ⊥)
      → Carries is lines seats c most → Carries is (slice_set lines p (slice_set links number link')) seats c most
  carries_apart lines p number links link' c most there apart h =
      carries_on lines (slice_set lines p (slice_set links number link')) c most (λ here out w. elim (same_or_not c.proxy p) [
        | inl same ↦ elim (same_or_not c.link number) [
          | inl own ↦ absurd (apart (here, same, own))
          | inr other ↦ writes_kept lines p number links link' c.proxy c.link out there same other w
        ]
        | inr other ↦ writes_elsewhere lines p (slice_set links number link') c.proxy c.link out other w
      ]) h

  -- a leg goes over the link of a connection
  carries_leg : (lines : List (List Link)) (p number : ℕ) (links : List Link) (link : Link) (sent : SentLeg) (c : Connection) (most : ℕ) → At lines p links → At links number link
      → link.is_up ≡ true → IsReadable sent → IsOver p number c
      → Carries is lines seats c most → Carries is (slice_set lines p (slice_set links number (with_leg sent link))) seats c (most + sets_of_leg is sent)
  carries_leg lines p number links link sent c most there link_there up readable over h =
      let old = h.here over.0 in
      let one : link ≡ old.link = own_link lines p number links link c.proxy c.link h.out there link_there over.1 over.2 old in
      let new : Link = with_leg sent link in
      let links' : List Link = slice_set links number new in
      record {
        legs = h.legs ++ sent ∷ [];
        out = h.out ++ text_of sent;
        readable = readable_more h.legs sent h.readable readable;
        few = (let more = sum_by_push (sets_of_leg is) h.legs sent in let few = h.few in omega arith);
        texts = λ kept k. text_more h.legs sent kept c.forth h.out (h.texts kept k);
        here = λ _. record {
          links = links';
          link = new;
          home = subst (λ n. At (slice_set lines p links') n links') (sym over.1) (at_written links' there);
          there = subst (λ n. At links' n new) (sym over.2) (at_written new link_there);
          is_up = up;
          out_is = ap (λ x. x ++ text_of sent) (ap (λ (x : Link). x.out) one ∙ old.out_is);
        };
      }

  -- what is owed once legs went, at most so many more
  pub record OwesMore (lines : List (List Link)) (connections : List Connection) (owed : List ℕ) (more : ℕ) : Type 0 where
    pub now : List ℕ
    pub carried : AreCarried is lines seats connections now
    pub few : total now ≤ total owed + more

  -- nothing more is owed where the link isn't up
  leg_lost : (lines : List (List Link)) (connections : List Connection) (owed : List ℕ) (p number : ℕ) (links : List Link) (link link' : Link) → At lines p links → At links number link
      → link.is_up ≡ false → AreCarried is lines seats connections owed → AreCarried is (slice_set lines p (slice_set links number link')) seats connections owed
  leg_lost lines connections owed p number links link link' there link_there down h = record {
    as_many = h.as_many;
    each = λ i c k. (let one = h.each i c k in
        carries_apart lines p number links link' c (get_or owed i 0) there
        (λ over. (
        let old = one.here over.0 in
        let same : link ≡ old.link = own_link lines p number links link c.proxy c.link one.out there link_there over.1 over.2 old in
        let no : false ≡ true = sym down ∙ ap (λ (x : Link). x.is_up) same ∙ old.is_up in
        cc)) one);
  }

  leg_goes : (lines : List (List Link)) (connections : List Connection) (owed : List ℕ) (p number : ℕ) (links : List Link) (link : Link) (sent : SentLeg) → AreSingle connections
      → At lines p links → At links number link → link.is_up ≡ true → IsReadable sent → AreCarried is lines seats connections owed
      → OwesMore (slice_set lines p (slice_set links number (with_leg sent link))) connections owed (sets_of_leg is sent)
  leg_goes lines connections owed p number links link sent single there link_there up readable h =
      let lines' : List (List Link) = slice_set lines p (slice_set links number (with_leg sent link)) in
      elim (find_over p number connections) [
        | inl found ↦ (
            let k : ℕ = found.0 in
            let more : ℕ = get_or owed k 0 + sets_of_leg is sent in
            let now : List ℕ = slice_set owed k more in
            let within : k < length owed = subst (λ n. k < n) (sym h.as_many) (slice_get_within connections k found.1 found.2.gets) in
            let is_more : get_or now k 0 ≡ more = get_or-set_same owed k more 0 within in
            record {
              now = now;
              carried = record {
                as_many = length-set owed k more ∙ h.as_many;
                each = λ i c at. elim (same_or_not i k) [
                  | inl same ↦ (
                      let one : found.1 ≡ c = at_one found.2 (subst (λ n. At connections n c) same at) in
                      subst (λ n. Carries is lines' seats c (get_or now n 0)) (sym same)
                      (subst (λ m. Carries is lines' seats c m) (sym is_more)
                      (carries_leg lines p number links link sent c (get_or owed k 0) there link_there up readable (subst (λ x. IsOver p number x) one found.3)
                      (h.each k c (subst (λ n. At connections n c) same at)))))
                  | inr other ↦ subst (λ m. Carries is lines' seats c m) (sym (get_or-set_other owed k i more 0 other))
                      (carries_apart lines p number links (with_leg sent link) c (get_or owed i 0) there
                      (λ over. other (single i k c found.1 at found.2 over.0 found.3.0 (over.1 ∙ sym found.3.1) (over.2 ∙ sym found.3.2))) (h.each i c at))
                ];
              };
              few = (let sum = sum_by-set itself owed k more 0 within in omega arith);
            })
        | inr none ↦ record {
          now = owed;
          carried = record {
            as_many = h.as_many;
            each = λ i c at. carries_apart lines p number links (with_leg sent link) c (get_or owed i 0) there (none i c at) (h.each i c at);
          };
          few = omega arith;
        }
      ]

  -- a leg goes, or is lost
  leg_by : (is_up : Bool) (lines : List (List Link)) (connections : List Connection) (owed : List ℕ) (p number : ℕ) (links : List Link) (link : Link) (sent : SentLeg) → AreSingle connections
      → At lines p links → At links number link → link.is_up ≡ is_up → IsReadable sent → AreCarried is lines seats connections owed
      → OwesMore (slice_set lines p (slice_set links number (if is_up then with_leg sent link else record link { counts = leg_unsent sent link.counts }))) connections owed (sets_of_leg is sent)
  leg_by true lines connections owed p number links link sent single there link_there up readable h = leg_goes lines connections owed p number links link sent single there link_there up readable h
  leg_by false lines connections owed p number links link sent single there link_there up readable h = record {
    now = owed;
    carried = leg_lost lines connections owed p number links link (record link { counts = leg_unsent sent link.counts }) there link_there up h;
    few = omega arith;
  }

  leg_in : (o : Option Link) (lines : List (List Link)) (connections : List Connection) (owed : List ℕ) (p number : ℕ) (links : List Link) (sent : SentLeg) → AreSingle connections
      → At lines p links → slice_get links number ≡ o → IsReadable sent → AreCarried is lines seats connections owed
      → OwesMore (slice_set lines p (sent_over_in o number sent links)) connections owed (sets_of_leg is sent)
  leg_in None lines connections owed p number links sent single there e readable h = record {
    now = owed;
    carried = subst (λ l. AreCarried is l seats connections owed) (sym (written_back there)) h;
    few = omega arith;
  }
  leg_in (Some link) lines connections owed p number links sent single there e readable h =
      leg_by link.is_up lines connections owed p number links link sent single there (record { gets = e }) refl readable h

  -- what travels goes
  each_goes : (sents : List SentLeg) (lines : List (List Link)) (connections : List Connection) (owed : List ℕ) (p : ℕ) (links : List Link) (routing : RoutingView)
      → AreSingle connections → At lines p links → AllByRecursion IsTravelling sents → AreCarried is lines seats connections owed
      → OwesMore (slice_set lines p (each_sent routing sents links)) connections owed (sum_by (sets_of_leg is) sents)
  each_goes [] lines connections owed p links routing single there readable h = record {
    now = owed;
    carried = subst (λ l. AreCarried is l seats connections owed) (sym (written_back there)) h;
    few = omega arith;
  }
  each_goes (sent ∷ sents) lines connections owed p links routing single there readable h =
      let number : ℕ = link_of routing sent.leg in
      let between : List Link = sent_over number sent links in
      let first = leg_in (slice_get links number) lines connections owed p number links sent single there refl readable.0.valid h in
      let next = each_goes sents (slice_set lines p between) connections first.now p between routing single (at_written between there) readable.1 first.carried in
      record {
        now = next.now;
        carried = subst (λ l. AreCarried is l seats connections next.now) (set-set lines p between (each_sent routing sents between)) next.carried;
        few = (let a = first.few in let b = next.few in let sum = sum_by-cons (sets_of_leg is) sent sents in omega arith);
      }

  -- the legs of a request go
  pub legs_go : (sheets : List LegSheet) (lines : List (List Link)) (connections : List Connection) (owed : List ℕ) (p : ℕ) (links : List Link) (asker : Asker) (routing : RoutingView)
      → AreSingle connections → At lines p links → AllByRecursion IsReadableSheet sheets → FitTogether sheets → AreCarried is lines seats connections owed
      → OwesMore (slice_set lines p (all_sent asker routing sheets links)) connections owed (sum_by (sets_of_sheet is) sheets)
  legs_go sheets lines connections owed p links asker routing single there readable fits h =
      let went = each_goes (travelling asker [] sheets) lines connections owed p links routing single there (travel_valid asker sheets readable fits) h in
      let weigh = sets_together is asker sheets [] in
      record { now = went.now; carried = went.carried; few = (let few = went.few in omega arith) }

  -- one connection changes, and the link that it goes over
  pub carried_changed : (lines : List (List Link)) (connections : List Connection) (owed : List ℕ) (number : ℕ) (c c' : Connection) (links : List Link) (link' : Link) (loop' : LoopView)
      → AreSingle connections → At lines c.proxy links → At connections number c → c.is_left ≡ false → loop'.links ≡ slice_set links c.link link'
      → Carries is (slice_set lines c.proxy loop'.links) seats (left_if_down c.proxy loop' c') (get_or owed number 0)
      → AreCarried is lines seats connections owed
      → AreCarried is (slice_set lines c.proxy loop'.links) seats (map (left_if_down c.proxy loop') (slice_set connections number c')) owed
  carried_changed lines connections owed number c c' links link' loop' single there at is_here links_are new h =
      let changed : List Connection = slice_set connections number c' in
      let lines' : List (List Link) = slice_set lines c.proxy loop'.links in
      record {
        as_many = h.as_many ∙ sym (length-set connections number c') ∙ sym (length-map changed (left_if_down c.proxy loop'));
        each = λ i d k. (let old = at_map (left_if_down c.proxy loop') changed k in
            subst (λ x. Carries is lines' seats x (get_or owed i 0)) (sym old.2)
            (elim (at_set connections number c' old.1) [
              | inl e ↦ subst (λ x. Carries is lines' seats (left_if_down c.proxy loop' x) (get_or owed i 0)) (sym e.1)
                  (subst (λ n. Carries is lines' seats (left_if_down c.proxy loop' c') (get_or owed n 0)) (sym e.0) new)
              | inr e ↦ carries_moved lines c.proxy links loop' old.0 (get_or owed i 0) there
                  (λ here same. subst (λ l. IsSameLink links l old.0.link) (sym links_are)
                  (elsewhere_same links c.link old.0.link link' (λ same_link. e.0 (single i number old.0 c e.1 at here is_here same same_link))))
                  (h.each i old.0 e.1)
            ]));
      }
