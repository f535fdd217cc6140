mod AlongLaws
