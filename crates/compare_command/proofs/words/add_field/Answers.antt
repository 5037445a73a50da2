use Rattle.compare_command.specs.Lines.{field_word}
use Rattle.compare_command.proofs.words.add_field.Goals as goal

pub returns-in-Kind : goal.returns-in-Kind
unfolding field_word
returns-in-Kind c = rw (c.in-Kind.is) c.write.ensures.bytes

pub returns-in-Owner : goal.returns-in-Owner
unfolding field_word
returns-in-Owner c = rw (c.in-Owner.is) c.write-in-Owner.ensures.bytes

pub returns-in-Cell : goal.returns-in-Cell
unfolding field_word
returns-in-Cell c = rw (c.in-Cell.is) c.write-in-Cell.ensures.bytes

pub returns-in-Facing : goal.returns-in-Facing
unfolding field_word
returns-in-Facing c = rw (c.in-Facing.is) c.write-in-Facing.ensures.bytes

pub returns-in-Leg : goal.returns-in-Leg
unfolding field_word
returns-in-Leg c = rw (c.in-Leg.is) c.write-in-Leg.ensures.bytes

pub returns-in-Health : goal.returns-in-Health
unfolding field_word
returns-in-Health c = rw (c.in-Health.is) c.write-in-Health.ensures.bytes

pub returns-in-Load : goal.returns-in-Load
unfolding field_word
returns-in-Load c = rw (c.in-Load.is) c.write-in-Load.ensures.bytes

pub returns-in-Reload : goal.returns-in-Reload
unfolding field_word
returns-in-Reload c = rw (c.in-Reload.is) c.write-in-Reload.ensures.bytes

pub returns-in-Acts : goal.returns-in-Acts
unfolding field_word
returns-in-Acts c = rw (c.in-Acts.is) c.write-in-Acts.ensures.bytes

pub returns-in-Builds : goal.returns-in-Builds
unfolding field_word
returns-in-Builds c = rw (c.in-Builds.is) c.write-in-Builds.ensures.bytes
