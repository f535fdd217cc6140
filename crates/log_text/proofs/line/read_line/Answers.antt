use Rattle.log_text.proofs.line.read_line.Goals as goal

pub returns-in-Opening : goal.returns-in-Opening
returns-in-Opening c = rw c.in-Opening.is c.read_title.ensures

pub returns-in-TitledOne : goal.returns-in-TitledOne
returns-in-TitledOne c = rw c.in-TitledOne.is c.read_mode_one.ensures

pub returns-in-TitledTwo : goal.returns-in-TitledTwo
returns-in-TitledTwo c = rw c.in-TitledTwo.is c.read_mode_two.ensures

pub returns-in-Moded : goal.returns-in-Moded
returns-in-Moded c = rw c.in-Moded.is c.read_divergence.ensures

pub returns-in-Divided : goal.returns-in-Divided
returns-in-Divided c = rw c.in-Divided.is c.read_spec.ensures

pub returns-in-Headed : goal.returns-in-Headed
returns-in-Headed c = rw c.in-Headed.is c.read_patience.ensures

pub returns-in-Patient : goal.returns-in-Patient
returns-in-Patient c = rw c.in-Patient.is c.read_steps.ensures

pub returns-in-Listing : goal.returns-in-Listing
returns-in-Listing c = rw c.in-Listing.is c.read_listing.ensures

pub returns-in-Leaving : goal.returns-in-Leaving
returns-in-Leaving c = rw c.in-Leaving.is c.read_leaving.ensures
