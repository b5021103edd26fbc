-- Each clause is a lemma.
use Rattle.channel.proofs.Held.{alike_then, gained_over, gained_still, image_ended, image_opened, image_tried}
use Rattle.channel.proofs.laws.images_follow_what_is_held.Goals as goal

pub returns-clause-ended : goal.returns-clause-ended
returns-clause-ended g c = image_ended g.D.Disk.reads

pub returns-clause-opened : goal.returns-clause-opened
returns-clause-opened g c = image_opened g.D.Disk.reads

pub returns-clause-tried : goal.returns-clause-tried
returns-clause-tried g c = image_tried g.D.Disk.reads

pub returns-clause-stays : goal.returns-clause-stays
returns-clause-stays g c = λ d old new keeps alike. alike_then new.held old.held d keeps.held alike

pub returns-clause-stays_opened : goal.returns-clause-stays_opened
returns-clause-stays_opened g c = gained_still

pub returns-clause-stored : goal.returns-clause-stored
returns-clause-stored g c = λ part next_id d old new alike gained. gained_over part next_id old.held d new alike gained
