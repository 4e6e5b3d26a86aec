use Rattle.std.proofs.Common.{◌≡◌, ◌+◌, ◌<◌, ◌≤◌, length, string_bytes, arith, rules}
use Rattle.std.proofs.lemmas.Str.{IsUtf8-string_bytes}
use Rattle.serde_json.specs.View.{view}
use Rattle.mr_scripts.specs.Limits.{most_bytes}
use Rattle.mr_scripts.specs.Upgrade.{upgraded}
use Rattle.mr_scripts.proofs.UpgradeLemmas.{upgrade_made, upgrade_refused}
use Rattle.mr_scripts.proofs.upgrade.upgrade_script.Goals as goal

pub returns-then-len-ge-MAX_SCRIPT-clause-refused :
    goal.returns-then-len-ge-MAX_SCRIPT-clause-refused
returns-then-len-ge-MAX_SCRIPT-clause-refused c =
    let script = c.in_ok-script.script in
    let made = view c.in_ok-upgraded.field-0 in
    let is : made ≡ upgraded script.format (view script.json) = search rules in
    let long : length (string_bytes c.in_ok-text.text) ≡ c.len.result = search rules in
    let large : most_bytes < length (string_bytes c.in_ok-text.text) + 1 = omega (arith, long, c.if-len-ge-MAX_SCRIPT.true) in
    upgrade_refused c.args.bytes.now (string_bytes c.in_ok-text.text) script made c.in_ok-script.ensures is c.in_ok-text.ensures.text c.in_ok-text.ensures.reads_back
    (IsUtf8-string_bytes c.in_ok-text.text) large

pub returns-clause-upgraded : goal.returns-clause-upgraded
returns-clause-upgraded c =
    let script = c.in_ok-script.script in
    let made = view c.in_ok-upgraded.field-0 in
    let is : made ≡ upgraded script.format (view script.json) = search rules in
    let long : length (string_bytes c.in_ok-text.text) ≡ c.len.result = search rules in
    let small : length (string_bytes c.in_ok-text.text) + 1 ≤ most_bytes = omega (arith, long, c.if-len-ge-MAX_SCRIPT.false) in
    rw c.into_bytes.ensures.value
    (upgrade_made c.args.bytes.now (string_bytes c.in_ok-text.text) script made c.in_ok-script.ensures is c.in_ok-text.ensures.text c.in_ok-text.ensures.reads_back
    (IsUtf8-string_bytes c.in_ok-text.text) small)
