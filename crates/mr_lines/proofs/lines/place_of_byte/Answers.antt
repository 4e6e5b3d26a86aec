use Rattle.std.proofs.Common.{◌≡◌, ◌∙◌, ap, length, take, drop, option_map, Some, None, ◌+◌, ◌-◌, arith}
use Rattle.std.proofs.lemmas.List.{take_all, length-drop}
use Rattle.mr_lines.specs.Lines.{byte_place}
use Rattle.mr_lines.proofs.ByteLemmas.{first_byte_is, place_by_run, place_past_run}
use Rattle.mr_lines.proofs.lines.place_of_byte.Goals as goal

pub returns-then-bytes-lt-LANES-clause-place : goal.returns-then-bytes-lt-LANES-clause-place
returns-then-bytes-lt-LANES-clause-place c = first_byte_is c.args.wanted c.args.bytes.now c.memchr.result c.memchr.ensures

pub returns-then-run-lt-LANES-clause-place : goal.returns-then-run-lt-LANES-clause-place
returns-then-run-lt-LANES-clause-place c =
    place_by_run c.args.wanted 16 c.args.bytes.now c.run_before-run.result c.run_before-run.ensures (omega arith) (omega arith)

pub returns-in-Some-clause-place : goal.returns-in-Some-clause-place
returns-in-Some-clause-place c =
    let run = c.run_before-run.ensures in
    let none = c.if-run-lt-LANES.false in
    let long = c.if-bytes-lt-LANES.false in
    let rest = take (length c.args.bytes.now - 16) (drop 16 c.args.bytes.now) in
    let all : rest ≡ drop 16 c.args.bytes.now = take_all (length c.args.bytes.now - 16) (drop 16 c.args.bytes.now) (omega (arith, length-drop 16 c.args.bytes.now)) in
    let found = first_byte_is c.args.wanted rest (Some c.in-Some.place) c.in-Some.ensures in
    ap (option_map (λ place. 16 + place)) (found ∙ ap (byte_place c.args.wanted) all)
    ∙ place_past_run c.args.wanted 16 c.args.bytes.now (omega arith) (omega arith)

pub returns-in-None-clause-place : goal.returns-in-None-clause-place
returns-in-None-clause-place c =
    let run = c.run_before-run.ensures in
    let none = c.if-run-lt-LANES.false in
    let long = c.if-bytes-lt-LANES.false in
    let rest = take (length c.args.bytes.now - 16) (drop 16 c.args.bytes.now) in
    let all : rest ≡ drop 16 c.args.bytes.now = take_all (length c.args.bytes.now - 16) (drop 16 c.args.bytes.now) (omega (arith, length-drop 16 c.args.bytes.now)) in
    let found = first_byte_is c.args.wanted rest None c.in-None.ensures in
    ap (option_map (λ place. 16 + place)) (found ∙ ap (byte_place c.args.wanted) all)
    ∙ place_past_run c.args.wanted 16 c.args.bytes.now (omega arith) (omega arith)
