-- The images of the two files hold one thing at most.
use Rattle.plain_storage.proofs.PlainFiles.{plain_once}
use Rattle.plain_storage.proofs.laws.images_hold_one.Goals as goal

pub returns : goal.returns
returns c = λ image0 image1 held other stored also. plain_once image0 image1 held other stored also
