mod CellLaws
mod StepLaws
mod CodeLaws
mod TalkLaws
mod RunLaws
