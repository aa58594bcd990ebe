mod FramingLaws
