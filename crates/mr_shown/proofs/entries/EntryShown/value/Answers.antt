use Rattle.mr_shown.proofs.entries.EntryShown.value.Goals as goal

pub returns-in-Issued : goal.returns-in-Issued
returns-in-Issued c = rw c.in-Issued.is (c.object_with.ensures _ c.request_value.ensures)

pub returns-in-Answered : goal.returns-in-Answered
returns-in-Answered c = rw c.in-Answered.is (c.object_with-in-Answered.ensures _ c.reply_value.ensures)
