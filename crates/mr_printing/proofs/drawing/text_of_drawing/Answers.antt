use Rattle.std.proofs.Common.{◌≡◌, subst, IfOk}
use Rattle.mr_drawing.specs.Picture.{SceneView, picture_of}
use Rattle.mr_printing.specs.Drawing.{drawing_text}
use Rattle.mr_printing.proofs.drawing.text_of_drawing.Goals as goal

pub returns : goal.returns
unfolding drawing_text
returns c = subst (λ (scene : SceneView). IfOk c.draw.result (λ text. text.items ≡ picture_of scene)) c.scene_of-scene.ensures c.draw.ensures
