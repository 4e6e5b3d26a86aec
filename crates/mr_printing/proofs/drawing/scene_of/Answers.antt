use Rattle.mr_printing.proofs.drawing.scene_of.Goals as goal

pub returns : goal.returns
returns c = rw (
  c.proxies.ensures,
  c.as_slice.ensures.value,
  c.as_slice-2.ensures.value,
  c.sent.ensures,
  c.replies.ensures,
  c.entries.ensures.entries,
  c.history.ensures,
  c.requires.titled,
  c.requires.checked,
)
